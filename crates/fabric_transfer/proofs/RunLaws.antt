-- Runs, by what the code keeps of them: the limit of a run is a legal burst; what comes before an access, less its place, comes
-- before its run.
-- Assumes nothing.
use mathlib.Core.Path.{◌≡◌, refl, sym, ap, ap₂, ◌∙◌, subst}
use mathlib.Core.Bool.{Bool, true, false, cond}
use Prim.Native.Nat.{ℕ, ◌-◌, ◌%◌, ◌≤◌, ◌<◌, min}
use native.Mathlib.Nat.{mod-le}
use native.Mathlib.Omega.{arith}
use lib.Bits.{bit_and}
use lib.Dec.{ltb}
use Rattle.common_laws.specs.Lists.{member}
use Rattle.common_laws.proofs.Arithmetic.{less_remainder}
use Rattle.description_board.specs.declared.Master.{Master}
use Rattle.description_board.specs.Records.{Slave}
use Rattle.description_board.specs.Rules.{bursts}
use Rattle.description_board.proofs.RuleLaws.{burst_bound}
use Rattle.fabric_transfer.specs.declared.Transfer.{Transfer}
use Rattle.fabric_transfer.specs.Accesses.{accesses}
use Rattle.fabric_transfer.specs.Runs.{run_limit, place_of, run_of}
use Rattle.fabric_transfer.proofs.PowerLaws.{over_burst}

module _ (ma : Master) (sl : Slave) (limit : ℕ) (legal : member sl.burst bursts ≡ true) (e : limit ≡ run_limit ma sl) where
  limit_legal : member limit bursts ≡ true
  unfolding run_limit member
  limit_legal = subst (λ (n : ℕ). member n bursts ≡ true) (sym e) (go (ltb ma.width sl.width))
    where
      go : (b : Bool) → member (cond b 1 sl.burst) bursts ≡ true
      go true = refl
      go false = legal

  pub limit_pos : 0 < limit
  limit_pos = (burst_bound limit limit_legal).0

  pub place_masked : (k : ℕ) → bit_and k (limit - 1) ≡ place_of ma sl k
  unfolding place_of
  place_masked k = over_burst k limit limit_legal ∙ ap (λ (n : ℕ). k % n) e

pub place_le : (ma : Master) (sl : Slave) (k place : ℕ) → place ≡ place_of ma sl k → place ≤ k
unfolding place_of
place_le ma sl k place e = omega (arith, mod-le k (run_limit ma sl))

pub run_from : (ma : Master) (sl : Slave) (t : Transfer) (k limit place total rest : ℕ)
    → limit ≡ run_limit ma sl → place ≡ place_of ma sl k → total ≡ accesses ma sl t → rest ≡ total - (k - place)
    → min limit rest ≡ run_of ma sl t k
unfolding place_of run_of
run_from ma sl t k limit place total rest e p q r =
    ap₂ min e (r ∙ ap₂ (λ (x y : ℕ). x - y) q (ap (λ (x : ℕ). k - x) p ∙ less_remainder k (run_limit ma sl)))
