-- A year that is no negative number.
use Rattle.std.proofs.Common.{◌≡◌, ℕ, ℤ, ap, nat_abs, negsuc, pos, sym}
use Rattle.std.specs.Int.{FitsUnsignedBits}

pub same_year : (year : ℤ) (number : ℕ) → FitsUnsignedBits 16 year → number ≡ nat_abs year → year ≡ pos number
same_year (pos n) number fits is = ap pos (sym is)
same_year (negsuc n) number fits is = absurd fits
