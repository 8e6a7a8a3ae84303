-- The slave of each transfer as the code finds it, and requests as a mask.
-- Assumes nothing.
use mathlib.Core.Path.{◌≡◌, refl, sym, ap, ◌∙◌}
use mathlib.Core.Bool.{Bool, true, false, cond, ◌&&◌, true≢false}
use mathlib.Core.List.{List}
use Prim.Native.Nat.{ℕ, ◌+◌, ◌%◌, ◌^◌, ◌≤◌, ◌<◌}
use native.Mathlib.Decide.{ℕ_discrete}
use native.Mathlib.Nat.{mod-eq_of_lt, mod-lt, add-zero}
use native.Mathlib.Numerals.{add-one}
use native.Mathlib.Omega.{arith}
use lib.Dec.{ltb, eqb}
use lib.ListN.{length, get_or, set, replicate, length-replicate, get_or-eq_default}
use lib.Pow.{pow_mono}
use borrow.Author.Tests.{lt-ltb, le-ltb, ltb-true, ltb-false, eq-eqb, ne_eqb}
use Rattle.common_laws.specs.Bits.{bit}
use Rattle.common_laws.specs.Lists.{table, sum}
use Rattle.common_laws.proofs.TableLaws.{get_or_table, get_or_replicate_all, mask, mask_lt, bit_mask, bit_mask_past}
use Rattle.common_laws.proofs.FillLaws.{table_is, set_table}
use Rattle.common_laws.proofs.FrontLaws.{table_same}
use Rattle.description_board.specs.Records.{Slave}
use Rattle.description_board.specs.declared.Board.{Board}
use Rattle.description_board.specs.Records.{slave_at, shares_at, connected}
use Rattle.description_board.specs.Items.{board_refusal}
use Rattle.description_board.proofs.Accepted.{accepted_legal}
use Rattle.fabric_transfer.specs.declared.Transfer.{Transfer}
use Rattle.fabric_transfer.specs.Accesses.{no_transfer}
use Rattle.fabric_transfer.specs.Decoding.{agrees, selects, target_of}
use Rattle.fabric_transfer.proofs.DecodeLaws.{span_of}
use Rattle.fabric_state.specs.declared.State.{State}
use Rattle.fabric_state.specs.Records.{transfer_at}
use Rattle.fabric_state.specs.Soundness.{holds_for}
use Rattle.fabric_check.specs.Code.Targets.{held_target, target_in, targets_in, request_mask}
use Rattle.fabric_check.specs.Code.Decoded.{Decodes}
use Rattle.fabric_transfer.proofs.SelectLaws.{target_first, selects_target}
use Rattle.fabric_state.proofs.RequestLaws.{holds_not}

-- a slave of the board is selected where its address agrees and the master has shares there; one of the two says that it is not
module _ (b : Board) (m address s : ℕ) where
  pub selects_here : {sl : Slave} {share : ℕ} {here : Bool} → s < b.slave_count → sl ≡ slave_at b s
      → here ≡ agrees sl address → share ≡ shares_at b m s → here ≡ true → 0 < share → selects b m address s ≡ true
  unfolding selects connected
  selects_here h e f g on some =
      rw (lt-ltb s b.slave_count h, ← g, ← e, ← f, on, lt-ltb 0 _ some)

  pub selects_elsewhere : {sl : Slave} {here : Bool} → sl ≡ slave_at b s → here ≡ agrees sl address → here ≡ false
      → selects b m address s ≡ false
  unfolding selects
  selects_elsewhere e f off = rw (← e, ← f, off) (go (connected b m s))
    where
      go : (c : Bool) → (c && false) ≡ false
      go true = refl
      go false = refl

  pub selects_unconnected : {share : ℕ} → share ≡ shares_at b m s → share ≤ 0 → selects b m address s ≡ false
  unfolding selects connected
  selects_unconnected g none = rw (← g, le-ltb 0 _ none) (go (ltb s b.slave_count))
    where
      go : (c : Bool) → ((c && false) && agrees (slave_at b s) address) ≡ false
      go true = refl
      go false = refl

-- an accepted board can be decoded
pub decodes : (b : Board) → board_refusal b ≡ 0 → Decodes b
decodes b ok =
    let legal = accepted_legal b ok in
    record { few = legal.few_slaves; span = λ s h. span_of (slave_at b s).span (legal.slave s h).span }

-- ---- requests as masks

-- the requests for slave s among the first m masters
abbrev pub mask_below : List ℕ → ℕ → ℕ → ℕ
mask_below ts m s = mask (λ k. eqb (get_or ts k 0) s) m

module _ (ts : List ℕ) where
  pub masks_none : {out : List ℕ} → out ≡ replicate 16 0 → out ≡ table (mask_below ts 0) 16
  unfolding sum
  masks_none e =
      e ∙ table_is (mask_below ts 0) 16 0 (replicate 16 0) (length-replicate {A = ℕ} 16 0) (λ s h. get_or_replicate_all 16 s 0)

  -- the target of master m is another slave than s, or none: nothing is added there
  mask_same : (m s : ℕ) → (get_or ts m 0 ≡ s → ⊥) → mask_below ts m s ≡ mask_below ts (m + 1) s
  unfolding sum
  mask_same m s w = rw (add-one m, ne_eqb (get_or ts m 0) s w, add-zero)

  -- at the index of the target's remainder by 16: the bit where it is a slave, and nothing where it is none
  mask_here : (m : ℕ) → mask_below ts m (get_or ts m 0 % 16) + cond (ltb (get_or ts m 0) 16) (2 ^ m) 0
      ≡ mask_below ts (m + 1) (get_or ts m 0 % 16)
  unfolding sum
  mask_here m = go (ltb (get_or ts m 0) 16) refl
    where
      go : (c : Bool) → ltb (get_or ts m 0) 16 ≡ c
          → mask_below ts m (get_or ts m 0 % 16) + cond c (2 ^ m) 0 ≡ mask_below ts (m + 1) (get_or ts m 0 % 16)
      go true e =
          let small = mod-eq_of_lt (ltb-true (get_or ts m 0) 16 e) in
          rw (add-one m, eq-eqb (get_or ts m 0) (get_or ts m 0 % 16) (sym small))
      go false e =
          let far = ltb-false (get_or ts m 0) 16 e in
          let low : get_or ts m 0 % 16 < 16 = mod-lt (get_or ts m 0) (omega arith) in
          rw add-zero (mask_same m (get_or ts m 0 % 16) (λ q. omega arith))

  -- one master more
  module _ (m : ℕ) {out : List ℕ} {w : ℕ} (e : out ≡ table (mask_below ts m) 16)
      (f : w ≡ cond (ltb (get_or ts m 0) 16) (2 ^ m) 0) where
    place : get_or ts m 0 % 16 < 16
    place = mod-lt (get_or ts m 0) (omega arith)

    sum_at : get_or out (get_or ts m 0 % 16) 0 + w ≡ mask_below ts (m + 1) (get_or ts m 0 % 16)
    sum_at = rw (e, f, get_or_table (mask_below ts m) 16 0 (get_or ts m 0 % 16) place) (mask_here m)

    pub masks_next : set out (get_or ts m 0 % 16) (get_or out (get_or ts m 0 % 16) 0 + w) ≡ table (mask_below ts (m + 1)) 16
    masks_next =
        rw (sum_at, e)
        (set_table (mask_below ts m) 16 (get_or ts m 0 % 16) (mask_below ts (m + 1) (get_or ts m 0 % 16))
        ∙ table_same _ _ 16 (λ s h. go s h (ℕ_discrete s (get_or ts m 0 % 16))))
      where
        go : (s : ℕ) → s < 16 → Dec (s ≡ get_or ts m 0 % 16)
            → cond (eqb s (get_or ts m 0 % 16)) (mask_below ts (m + 1) (get_or ts m 0 % 16)) (mask_below ts m s)
            ≡ mask_below ts (m + 1) s
        go s h (yes q) = rw (eq-eqb s (get_or ts m 0 % 16) q, q)
        go s h (no q) =
            rw (ne_eqb s (get_or ts m 0 % 16) q) (mask_same m s (λ x. q (sym (mod-eq_of_lt h) ∙ ap (λ (y : ℕ). y % 16) (sym x))))

    pub masks_fit : m < 8 → get_or out (get_or ts m 0 % 16) 0 + w < 256
    masks_fit h =
        let l : mask_below ts (m + 1) (get_or ts m 0 % 16) < 2 ^ (m + 1) =
        mask_lt (λ k. eqb (get_or ts k 0) (get_or ts m 0 % 16)) (m + 1) in
        let q : m + 1 ≤ 8 = omega arith in
        let p : 2 ^ (m + 1) ≤ 2 ^ 8 = pow_mono q in
        omega (arith, sum_at, l, p)

  pub masks_all : (m : ℕ) {out : List ℕ} → m ≡ 8 → out ≡ table (mask_below ts m) 16 → out ≡ table (request_mask ts) 16
  unfolding request_mask
  masks_all m e q = q ∙ rw e

  pub mask_at : (s : ℕ) {masks : List ℕ} → s < 16 → masks ≡ table (request_mask ts) 16 → get_or masks s 0 ≡ request_mask ts s
  mask_at s h e = rw e (get_or_table (request_mask ts) 16 0 s h)

-- on an accepted board a master's target is slave s exactly where it holds a transfer for slave s
module _ (b : Board) (ok : board_refusal b ≡ 0) (st : State) (full : length st.transfers ≡ 8) (s : ℕ)
    (here : s < b.slave_count) where
  target_selects : (m address : ℕ) → eqb (target_of b m address) s ≡ selects b m address s
  target_selects m address = go (selects b m address s) refl
    where
      go : (c : Bool) → selects b m address s ≡ c → eqb (target_of b m address) s ≡ c
      go true e = eq-eqb _ _ (selects_target b (accepted_legal b ok) m address s e)
      go false e =
          ne_eqb _ _ (λ q.
          let f = target_first b m address in
          true≢false (sym (f.found (rw q here)) ∙ ap (selects b m address) q ∙ e))

  pub target_holds : (m : ℕ) → m < 8 → eqb (get_or (targets_in b st.transfers) m 0) s ≡ holds_for b st s m
  unfolding targets_in target_in held_target holds_for
  target_holds m h =
      ap (λ (x : ℕ). eqb x s) (get_or_table (target_in b st.transfers) 8 0 m h)
      ∙ go (transfer_at st m).held (target_selects m (transfer_at st m).address)
    where
      go : (c : Bool) → eqb (target_of b m (transfer_at st m).address) s ≡ selects b m (transfer_at st m).address s
          → eqb (cond c (target_of b m (transfer_at st m).address) b.slave_count) s
          ≡ (c && selects b m (transfer_at st m).address s)
      go true e = e
      go false e = ne_eqb b.slave_count s (λ q. omega arith)

  -- so the mask's bits are who holds one
  pub mask_holds : (m : ℕ) → bit (request_mask (targets_in b st.transfers) s) m ≡ holds_for b st s m
  unfolding request_mask
  mask_holds m = go (ltb m 8) refl
    where
      go : (c : Bool) → ltb m 8 ≡ c → bit (request_mask (targets_in b st.transfers) s) m ≡ holds_for b st s m
      go true q =
          let near = ltb-true m 8 q in
          bit_mask (λ k. eqb (get_or (targets_in b st.transfers) k 0) s) 8 m near ∙ target_holds m near
      go false q =
          let far = ltb-false m 8 q in
          let none = get_or-eq_default st.transfers no_transfer {n = m} (rw full far) in
          bit_mask_past (λ k. eqb (get_or (targets_in b st.transfers) k 0) s) 8 m far
          ∙ sym (holds_not b st s m (ap (λ (t : Transfer). t.held) none))
