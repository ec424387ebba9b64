-- Where serving a link stands.
use Rattle.std.specs.Prelude.{◌≡◌, ℕ, ◌-◌, Bool, false, List, Some}
use Rattle.std.specs.Io.KnownBytes.{append_known, prepend_known}
use Rattle.http_wire.specs.Stream.{fresh, most_requests, Follows}
use Rattle.search_server.specs.LinkState.{LinkState}
use Rattle.search_routes.specs.Chosen.{Event}
use Rattle.search_server.specs.Run.{requests_of, replies}
use Rattle.search_server.specs.Served.{join, Went}

-- where serving stands: the n requests so far, their replies, and what is left
pub record Progress (bytes : List ℕ) (start here : LinkState) (n : ℕ) (closes : Bool) : Type 0 where
  pub events : List Event
  pub went : Went start here n false events
  pub rest : List ℕ
  pub pending_is : here.pending ≡ Some rest
  pub follows : Follows (fresh bytes) (requests_of events) (record { left = most_requests - n; closed = closes; bytes = rest })
  pub told_is : here.told ≡ append_known start.told (join (replies most_requests start.state events))

-- what is left in the end: the link still has what was not read, and the bytes that were kept are let go
pub record LeftBy (kept : List ℕ) (last final : LinkState) : Type 0 where
  pub pending : last.pending ≡ prepend_known kept final.pending
  pub told : final.told ≡ last.told
  pub state : final.state ≡ last.state
  pub fetches : final.fetches ≡ last.fetches
  pub log : final.log ≡ last.log
  pub read_faults : final.read_faults ≡ last.read_faults
  pub write_faults : final.write_faults ≡ last.write_faults
  pub disk_a : final.disk_a ≡ last.disk_a
  pub disk_b : final.disk_b ≡ last.disk_b
