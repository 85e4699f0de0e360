-- A number that is written as octets is read back from them.
use Prim.Native.Nat.{ℕ, ◌+◌, ◌*◌, ◌/◌, ◌%◌}
use mathlib.Core.List.{List, ◌++◌}
use mathlib.Core.Path.{◌≡◌}
use native.Mathlib.Omega.{arith}
use Rattle.octets.specs.BigEndian.{be16, be32, octets16, octets32}

pub what_is_written_is_read_16 : (n : ℕ) (rest : List ℕ) → be16 (octets16 n ++ rest) 0 ≡ n
what_is_written_is_read_16 n rest =
    let whole : 256 * (n / 256) + n % 256 ≡ n = omega arith in
    whole

pub what_is_written_is_read : (n : ℕ) (rest : List ℕ) → be32 (octets32 n ++ rest) 0 ≡ n
unfolding octets32
what_is_written_is_read n rest =
    let whole : 65536 * (256 * (n / 16777216) + n / 65536 % 256) + (256 * (n / 256 % 256) + n % 256) ≡ n = omega arith in
    whole
