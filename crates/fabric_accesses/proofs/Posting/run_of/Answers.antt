-- `fabric_accesses::Posting::run_of` meets its contract.
-- Assumes nothing.
use mathlib.Core.Path.{◌≡◌, ap, ◌∙◌}
use Prim.Native.Nat.{ℕ, ◌-◌}
use native.Mathlib.Omega.{arith}
use Rattle.fabric_transfer.proofs.RunLaws.{place_le, run_from}
use Rattle.fabric_accesses.proofs.Posting.run_of.Goals as goal

pub overflow_sub-start : goal.overflow_sub-start
overflow_sub-start c = place_le _ _ _ _ c.place_of-place.ensures

pub returns : goal.returns
returns c =
    let rest : c.saturating_sub-rest.result ≡ c.args.total - (c.args.k - c.place_of-place.result) =
    c.saturating_sub-rest.ensures ∙ ap (λ (x : ℕ). c.args.total - x) c.from.ensures in
    let gives =
    run_from _ _ _ _ _ _ _ _ c.run_limit-limit.ensures c.place_of-place.ensures c.requires.0 rest in
    omega (arith, c.min.ensures, c.from-2.ensures, gives)
