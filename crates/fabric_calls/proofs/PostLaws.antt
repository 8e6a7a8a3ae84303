-- The refusal of a post: what is true where there is none, when there is none, and what the post answers. No other file opens it.
-- Assumes nothing.
use mathlib.Core.Path.{◌≡◌, refl, sym, ◌∙◌}
use mathlib.Core.Bool.{Bool, true, false, cond, not}
use mathlib.Core.List.{List}
use mathlib.Core.Logic.{◌⊎◌, inl, inr}
use Prim.Native.Nat.{ℕ, ◌*◌, ◌≤◌, ◌<◌}
use native.Mathlib.Omega.{arith}
use lib.Dec.{leb, eqb}
use borrow.Author.Tests.{leb-false, lt-leb, eq-eqb, ne_eqb, eqb-true, eqb-false, not-false}
use Rattle.common_laws.proofs.Tests.{passed}
use Rattle.description_board.specs.declared.Master.{Master}
use Rattle.description_board.specs.declared.Board.{Board}
use Rattle.description_board.specs.Records.{master_at, slave_at}
use Rattle.description_board.specs.Items.{board_refusal}
use Rattle.description_board.proofs.Accepted.{accepted_legal}
use Rattle.fabric_transfer.specs.declared.Transfer.{Transfer}
use Rattle.fabric_transfer.specs.Decoding.{target_of}
use Rattle.fabric_transfer.specs.Bytes.{buffer_length, posted_words}
use Rattle.fabric_state.specs.declared.State.{State}
use Rattle.fabric_state.specs.Records.{transfer_at}
use Rattle.fabric_state.specs.Posting.{Request, transfer_of, wrong_beats, unaligned, wrong_lanes, unmapped}
use Rattle.fabric_state.specs.Posting.{passes_end, transfer_refusal_by, transfer_refusal, with_transfer}
use Rattle.fabric_state.specs.Soundness.{sound}
use Rattle.fabric_state.proofs.RequestLaws.{taken_bytes}
use Rattle.fabric_layout.specs.Layout.{state_in}
use Rattle.fabric_layout.specs.Numbers.{transfer_put}
use Rattle.fabric_calls.specs.Lent.{Posts}
use Rattle.fabric_calls.specs.Calls.{wrong_words, request_refusal, post_refusal_by, post_refusal, post, buffer_after_post}

-- a refusal's number that stands where it is not 0
pub passed_number : (r x : ℕ) → cond (not (eqb r 0)) r x ≡ 0 → (r ≡ 0) × (x ≡ 0)
passed_number r x e = go (eqb r 0) refl e
  where
    go : (z : Bool) → eqb r 0 ≡ z → cond (not z) r x ≡ 0 → (r ≡ 0) × (x ≡ 0)
    go true p f = (eqb-true r 0 p, f)
    go false p f = absurd (eqb-false r 0 p f)

-- what is true of a post that is taken, of its own part
pub record Taken (b : Board) (st : State) (m : ℕ) (t : Transfer) (bytes : ℕ) : Type 0 where
  pub master : m < b.master_count
  pub free : (transfer_at st m).held ≡ false
  pub fits : transfer_refusal b m t ≡ 0
  pub words : bytes ≡ cond t.write (t.beats * (master_at b m).width) 0

-- taken, or refused with 11 or more
abbrev pub Late : ℕ → Type 0
Late n = (n ≡ 0) ⊎ (11 ≤ n)

late : (c : Bool) (n x : ℕ) → Late n → Late x → Late (cond c n x)
late true n x p q = p
late false n x p q = q

module _ (b : Board) (m : ℕ) (t : Transfer) where
  late_transfer : Late (transfer_refusal b m t)
  unfolding transfer_refusal transfer_refusal_by
  late_transfer =
      let s = target_of b m t.address in
      late (wrong_beats (master_at b m) t) 13 _ (inr (omega arith))
      (late (unaligned (master_at b m) t) 14 _ (inr (omega arith))
      (late (wrong_lanes (master_at b m) t) 15 _ (inr (omega arith))
      (late (unmapped s b.slave_count) _ _ (late b.default_line 0 16 (inl refl) (inr (omega arith)))
      (late (passes_end (master_at b m) (slave_at b s) t) 17 0 (inr (omega arith)) (inl refl)))))

  -- the transfer passes: its words decide, by the master that was read
  module _ (passes : transfer_refusal b m t ≡ 0) {ma : Master} (own : ma ≡ master_at b m) {right : ℕ}
      (e : right ≡ cond t.write (t.beats * ma.width) 0) (bytes : ℕ) where
    pub words_right : bytes ≡ right → request_refusal b m t bytes ≡ 0
    unfolding request_refusal wrong_words
    words_right h = rw (passes, ← own, ← e, eq-eqb bytes right h)

  module _ (st : State) (room bytes : ℕ) where
    pub taken : post_refusal_by b st room m t bytes ≡ 0
        → (board_refusal b ≡ 0) × (room ≡ buffer_length) × Taken b st m t bytes
    unfolding post_refusal_by request_refusal wrong_words
    taken e =
        let right = cond t.write (t.beats * (master_at b m).width) 0 in
        let p = passed_number (board_refusal b) _ e in
        let q = passed (not (eqb room buffer_length)) 7 _ p.1 in
        let r = passed (not (sound b st)) 8 _ q.1 in
        let u = passed (leb b.master_count m) 10 _ r.1 in
        let v = passed (transfer_at st m).held 11 _ u.1 in
        let w = passed_number (transfer_refusal b m t) _ v.1 in
        let x = passed (not (eqb bytes right)) 17 0 w.1 in (
          p.0,
          eqb-true room buffer_length (not-false (eqb room buffer_length) q.0),
          record {
            master = leb-false b.master_count m u.0;
            free = v.0;
            fits = w.0;
            words = eqb-true bytes right (not-false (eqb bytes right) x.0);
          },
        )

    -- nothing of 2 to 9 is refused: what is left
    module _ (ok : board_refusal b ≡ 0) (full : room ≡ buffer_length) (keeps : sound b st ≡ true) where
      pub refusal_asked : post_refusal_by b st room m t bytes
          ≡ cond (leb b.master_count m) 11 (cond (transfer_at st m).held 12 (request_refusal b m t bytes))
      unfolding post_refusal_by
      refusal_asked = rw (ok, eq-eqb room buffer_length full, keeps)

      pub not_refused : Taken b st m t bytes → post_refusal_by b st room m t bytes ≡ 0
      unfolding request_refusal wrong_words
      not_refused x =
          refusal_asked
          ∙ rw (
            lt-leb b.master_count m x.master,
            x.free,
            eq-eqb (transfer_refusal b m t) 0 x.fits,
            eq-eqb bytes _ x.words,
          )

      pub refused_late : Late (post_refusal_by b st room m t bytes)
      unfolding request_refusal
      refused_late =
          rw refusal_asked
          (late (leb b.master_count m) 11 _ (inr (omega arith))
          (late (transfer_at st m).held 12 _ (inr (omega arith))
          (late (not (eqb (transfer_refusal b m t) 0)) _ _ late_transfer
          (late (wrong_words (master_at b m) t bytes) 18 0 (inr (omega arith)) (inl refl)))))

  -- on an accepted board the master has a part of the buffer, and the words fit it
  module _ (ok : board_refusal b ≡ 0) {st : State} {bytes : ℕ} (x : Taken b st m t bytes) where
    pub some_part : m < 8
    some_part = omega (arith, x.master, (accepted_legal b ok).few_masters)

    pub words_fit : bytes ≤ 512
    words_fit = go t.write x.words
      where
        go : (c : Bool) → bytes ≡ cond c (t.beats * (master_at b m).width) 0 → bytes ≤ 512
        go true f = omega (arith, f, taken_bytes b (accepted_legal b ok) m t x.fits x.master)
        go false f = omega arith

-- what a post answers and leaves: a refused one leaves the state and every lent byte as they were (rule 8.1)
module _ (b : Board) (before buffer : List ℕ) (q : Request) {n : ℕ} (e : n ≡ post_refusal b (state_in before) buffer q) where
  pub post_refused : (n ≡ 0 → ⊥) → Posts b q before before buffer buffer n
  unfolding post buffer_after_post
  post_refused z =
      let no = ne_eqb (post_refusal b (state_in before) buffer q) 0 (λ f. z (e ∙ f)) in
      record { answer = rw (no, e); stored = rw no; numbers = λ f. absurd (z f); kept = λ _. refl }

  pub post_taken_lem : n ≡ 0 → {after left : List ℕ} → state_in after ≡ with_transfer (state_in before) q.master (transfer_of q)
      → after ≡ transfer_put before q.master (transfer_of q) → left ≡ posted_words q.master q.words buffer
      → Posts b q before after buffer left 0
  unfolding post buffer_after_post
  post_taken_lem z f p g =
      let yes = sym e ∙ z in
      record { answer = rw (yes, f); stored = rw yes g; numbers = λ _. p; kept = λ h. absurd (h refl) }
