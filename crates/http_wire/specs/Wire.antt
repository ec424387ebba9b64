-- A request, and a head before its body, as the code holds them.
use Rattle.http_wire.specs.declared.reading.Wire.{Wire}
use Rattle.http_wire.specs.declared.reading.Head.{Head}
use Rattle.http_wire.specs.Judge.{Parts}
use Rattle.http_wire.specs.Stream.{Request}

-- the request
abbrev pub request_of : Wire → Request
request_of w = record { method = w.method; target = w.target; body = w.body.items; closes = w.closes }

-- what stands in a head before its body
abbrev pub parts_of_head : Head → Parts
parts_of_head h = record { method = h.method; target = h.target; closes = h.closes }
