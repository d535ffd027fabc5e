use Rattle.std.proofs.Common.{refl}
use Rattle.phy.proofs.in_place.lent_at.Goals as goal

pub returns : goal.returns
returns g c = (_, record { shown = _; shows = refl; left = _; met = c.f.ensures; leaves = refl }, refl)
