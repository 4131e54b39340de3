use Prim.Native.Nat.{◌+◌, ◌-◌, ◌*◌}
use Rattle.format_sheet.proofs.fitting.+fits_fits_all.Given as goal

abbrev pub decreases-fits : goal.decreases-fits
decreases-fits l = (192 - l.p) * 8192

abbrev pub decreases-fits_all : goal.decreases-fits_all
decreases-fits_all l = (191 - l.parent) * 8192 + (l.n + 1)
