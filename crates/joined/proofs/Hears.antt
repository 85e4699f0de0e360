-- Records that are heard one after the other, as the code has them.
use Rattle.std.specs.Prelude.{fold}
use mathlib.Core.List.{List, [], ◌∷◌}
use mathlib.Core.Path.{◌≡◌, refl}
use Rattle.rules.specs.declared.record.Record.{Record}
use Rattle.sensor.specs.declared.state.Sensor.{Sensor}
use Rattle.pairs.specs.Pairs.{hears}
use Rattle.joined.specs.Joints.{heard}

pub hearing_folds : (row : List Record) (z : Sensor) → fold (λ y r. heard r y) z row ≡ hears row z
unfolding hears heard
hearing_folds [] z = refl
hearing_folds (r ∷ later) z = hearing_folds later (heard r z)
