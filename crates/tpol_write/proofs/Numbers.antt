-- Numbers that are written read back.
use Rattle.std.proofs.Common.{ℕ, ◌^◌, ◌<◌, ℤ, pos, negsuc, SFits, w32, ap, arith}
use Rattle.serde_json.specs.Data.{number}
use Rattle.serde_json.proofs.Numbers.{number_of-decimal, number_of-negative}
use Rattle.std.specs.Option.{option_map}
use Rattle.tpol_write.specs.Drafts.{Reads}
use Rattle.tpol_write.specs.Objects.{integer, natural}

pub natural_reads : (n : ℕ) → n < 2 ^ 64 → Reads (natural n)
natural_reads n few = ap (option_map number) (number_of-decimal n few)

pub integer_reads : (z : ℤ) → SFits w32 z → Reads (integer z)
integer_reads (pos n) fits = let few : n < 2 ^ 31 = fits.sfits in natural_reads n (omega (arith, few))
integer_reads (negsuc n) fits = let few : n < 2 ^ 31 = fits.sfits in ap (option_map number) (number_of-negative n (omega (arith, few)))
