-- A word that is turned left by five places is a sum of two parts that do not meet.
use Rattle.std.proofs.Common.{◌≡◌, ℕ, ◌*◌, ◌/◌, ◌%◌, ◌^◌, ◌<◌, arith}
use lib.Bits.{bit_or, or_shifted}
use Rattle.lives.specs.Archive.{turned}

pub turned_is : (a : ℕ) → a < 2 ^ 32 → bit_or (a * 2 ^ 5 % 2 ^ 32) (a / 2 ^ 27) ≡ turned a
turned_is a h =
    let e : a * 2 ^ 5 % 2 ^ 32 ≡ (a % 2 ^ 27) * 2 ^ 5 = omega arith in
    rw e (or_shifted (a % 2 ^ 27) 5 (a / 2 ^ 27) (omega arith))
