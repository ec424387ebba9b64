-- What the parser's own contracts see of what has been read of a value. No public contract cites it.
use Rattle.std.specs.Prelude.{map}
use Rattle.filter_tree.specs.View.{view}
use Rattle.filter_expr.specs.Reader.{Progress, progress}
use Rattle.filter_expr.specs.declared.member.Reader.{Reader}

abbrev pub reader_view : Reader → Progress
reader_view r = progress r.count r.bad (map view r.groups.items) (map view r.members.items)
