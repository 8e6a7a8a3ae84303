-- Gives the code of fabric_cycle its shape: what one clock makes of the latency clocks (rule 4.16), before the slaves act.
-- Assumes nothing.
use Rattle.std.specs.Prelude.{◌≡◌, cond, ℕ, ◌-◌, ◌^◌, ltb, eqb}
use Rattle.common_laws.specs.Lists.{table, sum}
use Rattle.fabric_transfer.specs.declared.Transfer.{Transfer}
use Rattle.fabric_transfer.specs.Accesses.{no_transfer}
use Rattle.fabric_state.specs.declared.State.{State}
use Rattle.fabric_state.specs.Records.{transfer_at, late_at}
use Rattle.fabric_state.specs.Posting.{with_transfer}
use Rattle.fabric_layout.specs.Code.Puts.{with_late}
use Rattle.fabric_cycle.specs.declared.Latent.{Latent}

-- the transfer of master m: one that has a last latency clock to pass ends
unfoldable pub counted_transfer : State → ℕ → Transfer
counted_transfer st m = cond (eqb (late_at st m) 1) no_transfer (transfer_at st m)

-- the state with the latency clocks of master m, which has n of them, counted
unfoldable pub counted_at : State → ℕ → ℕ → State
counted_at st m n =
    cond (eqb n 0) st (cond (eqb n 1) (with_transfer (with_late st m 0) m no_transfer) (with_late st m (n - 1)))

-- the latency clocks of the first n masters are counted: who has none, and who has its last
pub record Counted (before after : State) (n : ℕ) (r : Latent) : Type 0 where
  pub slots : after.slots ≡ before.slots
  pub log : after.log ≡ before.log
  pub transfers : after.transfers ≡ table (λ m. cond (ltb m n) (counted_transfer before m) (transfer_at before m)) 8
  pub late : after.late ≡ table (λ m. cond (ltb m n) (late_at before m - 1) (late_at before m)) 8
  pub free : r.free ≡ sum (λ m. cond (eqb (late_at before m) 0) (2 ^ m) 0) n
  pub finished : r.finished ≡ sum (λ m. cond (eqb (late_at before m) 1) (2 ^ m) 0) n
