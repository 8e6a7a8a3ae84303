-- A take: it changes the log alone (rule 4.19), so that who requests a slave, and what is left at it, stay as they were.
-- Assumes nothing.
use mathlib.Core.Path.{◌≡◌, refl}
use Prim.Native.Nat.{ℕ}
use Rattle.description_board.specs.declared.Board.{Board}
use Rattle.fabric_state.specs.declared.Log.{Log}
use Rattle.fabric_state.specs.declared.State.{State}
use Rattle.fabric_state.specs.Soundness.{requests}
use Rattle.fabric_state.specs.Logging.{with_log}
use Rattle.fabric_state.proofs.SoundLaws.{requests_same}
use Rattle.theorem_history.proofs.OneClock.AfterGrant.{left_at}
use Rattle.theorem_history.proofs.OneClock.UsableGrants.{ahead_in, usable_in, usable_at}
use Rattle.theorem_history.proofs.OneClock.SlaveClock.{pot_at}

module _ (b : Board) (st : State) (log : Log) (s : ℕ) where
  pub asks_logged : (m : ℕ) → requests b (with_log st log) s m ≡ requests b st s m
  unfolding with_log
  asks_logged m = requests_same b st (with_log st log) m s refl refl

  pub left_logged : left_at b (with_log st log) s ≡ left_at b st s
  unfolding with_log
  left_logged = refl

  pub usable_logged : usable_at b (with_log st log) s ≡ usable_at b st s
  unfolding with_log usable_in ahead_in
  usable_logged = refl

  pub pot_logged : (m : ℕ) → pot_at b (with_log st log) s m ≡ pot_at b st s m
  unfolding with_log
  pot_logged m = rw usable_logged
