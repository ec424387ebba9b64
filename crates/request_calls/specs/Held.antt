-- What the code holds of a call, as the definitions have it.
use Rattle.std.specs.Prelude.{ℕ, List, Option}
use Rattle.document_changes.specs.Changes.{change_view}
use Rattle.request_calls.specs.declared.body.NewIndex.{NewIndex as HeldIndex}
use Rattle.request_calls.specs.declared.call.Request.{Request as HeldCall}
use Rattle.request_calls.specs.declared.call.Request.TheVariants as asked
use Rattle.request_calls.specs.Asked.{CallData, write, read, read_view}

abbrev pub call_data : HeldCall → CallData
call_data (asked.Write change) = write (change_view change)
call_data (asked.Read call) = read (read_view call)

abbrev pub new_index : HeldIndex → List ℕ × Option (List ℕ)
new_index held = (held.uid, held.key)
