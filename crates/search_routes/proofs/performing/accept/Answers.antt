use Rattle.std.proofs.Common.{true, refl}
use Rattle.search_routes.proofs.performing.accept.Goals as goal

pub returns-in-Err-make_room-clause-made : goal.returns-in-Err-make_room-clause-made
returns-in-Err-make_room-clause-made g c =
    (true, record { status = refl; body = refl; each = λ closes. refl }, c.in-Err-make_room.ensures.stays)
