-- What a caller knows of a file that the check passes.
use Rattle.std.specs.Prelude.{Ok}
use mathlib.Core.List.{List}
use mathlib.Core.Path.{◌≡◌}
use Prim.Native.Nat.{ℕ}
use Rattle.rules.specs.Readings.{verdict}
use Rattle.rules.specs.Files.{check_start, read_file}
use Rattle.rules.specs.Refusals.{GoodStart, GoodFile}
use Rattle.rules.proofs.Refusals.Files.{start_decides, file_decides}

pub passed_start_is_good : (file : List ℕ) → check_start file ≡ (Ok tt) → GoodStart file
passed_start_is_good file h = (start_decides file).passed.0 h

pub passed_is_good : (file : List ℕ) → verdict (read_file file) ≡ (Ok tt) → GoodFile file
passed_is_good file h = (file_decides file).passed.0 h
