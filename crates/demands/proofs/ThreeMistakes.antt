-- The customer's three mistakes ("take this as a list of what the other two got wrong", rules, specs/Mistakes.antt), ruled out at
-- every place of every accepted cue file.
use Prim.Native.Nat.{ℕ}
use mathlib.Core.Path.{◌≡◌}
use mathlib.Core.List.{List}
use Rattle.rules.specs.Lists.{Cue}
use Rattle.rules.specs.Readings.{cues}
use Rattle.rules.specs.Files.{end_time, read_file, params_in, scenes_in}
use Rattle.rules.specs.Mistakes.{TiesKeepListOrder, OffIsHeard, AskingAgainIsIdle, OnIsIdleWhileItWaits, OnIsNeverLater, OutrankedIsDropped}
use Rattle.rules.proofs.Mistakes.Ties.{ties_keep_list_order_over_the_run}
use Rattle.rules.proofs.Mistakes.Delays.{an_off_is_heard, asking_again_never_keeps_the_house_lit}
use Rattle.rules.proofs.Mistakes.Waiting.{an_on_is_idle_while_it_waits, a_repeated_on_is_never_later}
use Rattle.rules.proofs.Mistakes.Rank.{an_outranked_cue_may_be_struck}
use Rattle.demands.proofs.EveryFile.{list_rises, has_some_time}

module _ (file : List ℕ) (list : List Cue) (read : read_file file ≡ cues list) where
  pub ties_keep_list_order_in_every_accepted_file : TiesKeepListOrder (params_in file) (scenes_in file) list (end_time file)
  ties_keep_list_order_in_every_accepted_file = ties_keep_list_order_over_the_run _ _ list (end_time file) (has_some_time file list read)

  pub an_off_is_heard_in_every_accepted_file : OffIsHeard (params_in file) (scenes_in file) list
  an_off_is_heard_in_every_accepted_file = an_off_is_heard _ _ list (end_time file) (list_rises file list read)

  pub asking_again_never_keeps_the_house_lit_in_every_accepted_file : AskingAgainIsIdle (params_in file) (scenes_in file) list (end_time file)
  asking_again_never_keeps_the_house_lit_in_every_accepted_file = asking_again_never_keeps_the_house_lit _ _ list (end_time file) (list_rises file list read)

  pub an_on_is_idle_while_it_waits_in_every_accepted_file : OnIsIdleWhileItWaits (params_in file) (scenes_in file) list (end_time file)
  an_on_is_idle_while_it_waits_in_every_accepted_file = an_on_is_idle_while_it_waits _ _ list (end_time file) (list_rises file list read)

  pub a_repeated_on_is_never_later_in_every_accepted_file : OnIsNeverLater (params_in file) (scenes_in file) list (end_time file)
  a_repeated_on_is_never_later_in_every_accepted_file = a_repeated_on_is_never_later _ _ list (end_time file) (list_rises file list read) (has_some_time file list read)

  pub an_outranked_cue_may_be_struck_in_every_accepted_file : OutrankedIsDropped (params_in file) (scenes_in file) list (end_time file)
  an_outranked_cue_may_be_struck_in_every_accepted_file = an_outranked_cue_may_be_struck _ _ list (end_time file) (list_rises file list read)
