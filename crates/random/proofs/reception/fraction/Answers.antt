use Rattle.random.proofs.Fractions.{product_is_fraction}
use Rattle.random.proofs.reception.fraction.Goals as goal

pub returns : goal.returns
returns c = product_is_fraction c.args.draw c.ranges.draw.fits
