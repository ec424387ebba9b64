use Rattle.std.proofs.Common.{◌≡◌, ◌-◌, ◌≤◌, length, reverse, slice_range}
use Rattle.httparse.specs.Grammar.{skip_ows, trim_ows}
use Rattle.http_wire.proofs.fields.trim.Given as goal

abbrev pub invariant-loop-start : goal.invariant-loop-start
invariant-loop-start l = record {
  within : l.start ≤ l.end;
  rest : skip_ows l.text ≡ skip_ows (slice_range l.text l.start l.end);
}

abbrev pub decreases-loop-start : goal.decreases-loop-start
decreases-loop-start l = l.end - l.start

abbrev pub invariant-loop-end : goal.invariant-loop-end
invariant-loop-end l = record {
  within : l.start ≤ l.end;
  fits : l.end ≤ length l.text;
  rest : trim_ows l.text ≡ reverse (skip_ows (reverse (slice_range l.text l.start l.end)));
}

abbrev pub decreases-loop-end : goal.decreases-loop-end
decreases-loop-end l = l.end - l.start
