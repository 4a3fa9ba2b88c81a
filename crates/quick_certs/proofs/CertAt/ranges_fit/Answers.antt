use Rattle.model.specs.Sections.{rdns, usages, names}
use Rattle.quick_certs.proofs.Certs.{ranges_row}
use Rattle.quick_certs.proofs.Tests.{range_right, part_range_right}
use Rattle.quick_certs.proofs.CertAt.ranges_fit.Goals as goal

pub returns : goal.returns
returns c = let k = c.args.self.counts.counted in λ b. ranges_row _ b _ (range_right _ rdns k.1 _ c.range_fits.ensures) (range_right _ rdns k.1 _ c.range_fits-2.ensures) (part_range_right _ usages k.2 _ _ c.part_range_fits.ensures) (part_range_right _ names k.3 _ _ c.part_range_fits-2.ensures) (part_range_right _ names k.3 _ _ c.part_range_fits-3.ensures) (part_range_right _ names k.3 _ _ c.part_range_fits-4.ensures)
