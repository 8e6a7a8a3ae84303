-- Unmapped transfers, answered behind what the slaves do (rules 4.17, 4.18): the loop over the masters, and the clock from both parts.
-- Assumes nothing.
use mathlib.Core.Path.{◌≡◌, refl, sym, ap, ◌∙◌}
use mathlib.Core.Bool.{Bool, true, false, cond, not, ◌&&◌, ◌||◌, true≢false}
use mathlib.Core.List.{List}
use Prim.Native.Nat.{ℕ, zero, suc, ◌+◌, ◌*◌, ◌^◌, ◌≤◌, ◌<◌}
use native.Mathlib.Numerals.{add-one}
use native.Mathlib.Omega.{arith}
use lib.Dec.{ltb}
use lib.ListN.{length, get_or}
use lib.Seq.{set-get_or}
use borrow.Author.Tests.{lt-ltb, le-ltb}
use Rattle.common_laws.specs.Bits.{bit}
use Rattle.common_laws.specs.Lists.{sum}
use Rattle.common_laws.proofs.TableLaws.{length_table, get_or_table, mask, mask_lt, bit_mask}
use Rattle.common_laws.proofs.BitLaws.{bit_above}
use Rattle.common_laws.proofs.FillLaws.{table_is, filled, filled_none, filled_next}
use Rattle.common_laws.proofs.FrontLaws.{table_same}
use Rattle.description_board.specs.declared.Master.{Master}
use Rattle.description_board.specs.declared.Board.{Board}
use Rattle.description_board.specs.Records.{master_at}
use Rattle.description_board.specs.Legal.{Legal}
use Rattle.fabric_transfer.specs.declared.Transfer.{Transfer}
use Rattle.fabric_transfer.specs.Accesses.{no_transfer}
use Rattle.fabric_transfer.specs.Bytes.{Store, buffer_length, cleared_words}
use Rattle.fabric_transfer.proofs.StoreLaws.{length_cleared}
use Rattle.fabric_state.specs.declared.Line.{Line}
use Rattle.fabric_state.specs.declared.State.{State}
use Rattle.fabric_state.specs.Records.{transfer_at}
use Rattle.fabric_state.specs.Posting.{with_transfer}
use Rattle.fabric_state.specs.Soundness.{unmapped_at}
use Rattle.fabric_state.specs.Logging.{entry_of, entered, entered_by, log_after, with_log}
use Rattle.fabric_state.specs.Control.{completed, finished, mask_of, transfer_after, state_after}
use Rattle.fabric_state.specs.Carrying.{clears, cleared_by, store_after}
use Rattle.fabric_state.proofs.Sound.{Sound}
use Rattle.fabric_state.proofs.LogLaws.{entered_count}
use Rattle.fabric_state.proofs.RequestLaws.{unmapped_held, taken_bytes}
use Rattle.fabric_state.proofs.SoundLaws.{unmapped_alone}
use Rattle.fabric_check.specs.Code.Targets.{unmapped_mask}
use Rattle.fabric_cycle.specs.Code.Cycles.{Passes, state_acted, Acted, Clocks}
use Rattle.fabric_cycle.specs.Code.Unmapped.{answered_transfer, bytes_held, answered_at, cleared_behind, cleared_at}
use Rattle.fabric_cycle.specs.Code.Unmapped.{entered_for, cleared_for, Answered, Answerable}
use Rattle.fabric_cycle.proofs.PassLaws.{runs_legal, runs_sound}

-- ---- one master

-- the ways of the code: a write leaves the buffer, the words of a read become 0
module _ (b : Board) (m : ℕ) (t : Transfer) (buffer : List ℕ) where
  pub clear_write : t.write ≡ true → buffer ≡ cleared_behind b m t buffer
  unfolding cleared_behind
  clear_write e = rw e

  pub clear_front : {ma : Master} {bytes : ℕ} {left : List ℕ} → t.write ≡ false → ma ≡ master_at b m → bytes ≡ t.beats * ma.width
      → left ≡ cleared_words m bytes buffer → left ≡ cleared_behind b m t buffer
  unfolding cleared_behind
  clear_front e f g h = h ∙ rw (e, g, f)

-- the words fit the master's part, by the master that was read
pub words_fit : (beats : ℕ) (own : Master) {ma : Master} → ma ≡ own → beats * own.width ≤ 512 → beats * ma.width ≤ 512
words_fit beats own e h = rw e h

-- the transfer that is held ends, and enters the log
module _ (v : State) (m : ℕ) {t : Transfer} (e : t ≡ transfer_at v m) where
  pub answer_held : {w x : State} → w ≡ with_transfer v m no_transfer → x ≡ with_log w (entered w.log (entry_of m t))
      → x ≡ answered_at v m
  unfolding answered_at with_log with_transfer
  answer_held f g = g ∙ rw (f, e)

  pub held_fits : (b : Board) → bytes_held b v m ≤ 512 → t.beats * (master_at b m).width ≤ 512
  held_fits b h = rw e h

  pub log_stands : {w : State} → w ≡ with_transfer v m no_transfer → v.log.count ≤ 8 → w.log.count ≤ 8
  unfolding with_transfer
  log_stands f h = rw f h

  pub answer_cleared : (b : Board) (before : List ℕ) {after : List ℕ} → after ≡ cleared_behind b m t before
      → after ≡ cleared_at b v m before
  unfolding cleared_at
  answer_cleared b before f = f ∙ rw e

-- ---- the loop

module _ (b : Board) (v : State) (mask : ℕ) where
  -- what a log and a buffer keep
  entered_few : v.log.count ≤ 8 → (n : ℕ) → (entered_for v mask n).count ≤ 8
  unfolding entered_for
  entered_few h zero = h
  entered_few h (suc n) = go (bit mask n) (entered_few h n)
    where
      go : (c : Bool) → (entered_for v mask n).count ≤ 8
          → (cond c (entered (entered_for v mask n) (entry_of n (transfer_at v n))) (entered_for v mask n)).count ≤ 8
      go true l = entered_count (entered_for v mask n) (entry_of n (transfer_at v n)) l
      go false l = l

  cleared_at_length : (m : ℕ) (buffer : List ℕ) → length (cleared_at b v m buffer) ≡ length buffer
  unfolding cleared_at cleared_behind
  cleared_at_length m buffer = go (transfer_at v m).write
    where
      go : (c : Bool) → length (cond c buffer (cleared_words m (bytes_held b v m) buffer)) ≡ length buffer
      go true = refl
      go false = length_cleared m (bytes_held b v m) buffer

  cleared_room : (buffer : List ℕ) (n : ℕ) → length (cleared_for b v mask n buffer) ≡ length buffer
  unfolding cleared_for
  cleared_room buffer zero = refl
  cleared_room buffer (suc n) = go (bit mask n) (cleared_room buffer n)
    where
      go : (c : Bool) → length (cleared_for b v mask n buffer) ≡ length buffer
          → length (cond c (cleared_at b v n (cleared_for b v mask n buffer)) (cleared_for b v mask n buffer)) ≡ length buffer
      go true e = cleared_at_length n (cleared_for b v mask n buffer) ∙ e
      go false e = e

  -- none of the masters is answered yet
  pub answered_begin : length v.transfers ≡ 8 → (buffer : List ℕ) → Answered b v v mask 0 buffer buffer
  unfolding filled entered_for cleared_for
  answered_begin l buffer = record {
    transfers = filled_none (answered_transfer v mask) (transfer_at v) 8 no_transfer v.transfers l (λ m h. refl);
    slots = refl;
    late = refl;
    log = refl;
    buffer = refl;
  }

  -- the buffer keeps its length
  pub answered_length : {w : State} {n : ℕ} {words left : List ℕ} → Answered b v w mask n words left → length left ≡ length words
  answered_length {w} {n} {words} {left} p = rw p.buffer (cleared_room words n)

  module _ {w : State} {n : ℕ} {words left : List ℕ} (p : Answered b v w mask n words left) (h : n < 8) where
    transfer_here : transfer_at w n ≡ transfer_at v n
    transfer_here =
        ap (λ (l : List Transfer). get_or l n no_transfer) p.transfers
        ∙ get_or_table (λ m. cond (ltb m n) (answered_transfer v mask m) (transfer_at v m)) 8 no_transfer n h
        ∙ rw (le-ltb n n (omega arith))

    -- the next one can be
    pub answer_count : v.log.count ≤ 8 → w.log.count ≤ 8
    answer_count k = rw p.log (entered_few k n)

    pub answer_room : length words ≡ buffer_length → length left ≡ buffer_length
    answer_room k = answered_length p ∙ k

    pub answer_fits : bytes_held b v n ≤ 512 → bytes_held b w n ≤ 512
    answer_fits k = rw transfer_here k

    -- it holds an unmapped transfer
    pub answered_next : bit mask n ≡ true → {x : State} {after : List ℕ} → x ≡ answered_at w n → after ≡ cleared_at b w n left
        → Answered b v x mask (n + 1) words after
    unfolding filled answered_at answered_transfer with_log with_transfer entered_for cleared_for cleared_at
    answered_next on {x} {after} e f = record {
      transfers =
          ap (λ (y : State). y.transfers) e
          ∙ filled_next (answered_transfer v mask) (transfer_at v) 8 n p.transfers (rw on);
      slots = ap (λ (y : State). y.slots) e ∙ p.slots;
      late = ap (λ (y : State). y.late) e ∙ p.late;
      log = ap (λ (y : State). y.log) e ∙ rw (add-one n, on, p.log, transfer_here);
      buffer = f ∙ rw (add-one n, on, p.buffer, transfer_here);
    }

    -- it holds none
    pub answered_skip : bit mask n ≡ false → Answered b v w mask (n + 1) words left
    unfolding filled answered_transfer entered_for cleared_for
    answered_skip off = record {
      transfers =
          sym (set-get_or w.transfers n no_transfer)
          ∙ filled_next (answered_transfer v mask) (transfer_at v) 8 n p.transfers (rw (off, transfer_here));
      slots = p.slots;
      late = p.late;
      log = p.log ∙ rw (add-one n, off);
      buffer = p.buffer ∙ rw (add-one n, off);
    }

-- with an empty mask nothing is answered
module _ (b : Board) (v : State) where
  none_entered : (n : ℕ) → entered_for v 0 n ≡ v.log
  unfolding entered_for
  none_entered zero = refl
  none_entered (suc n) = rw (bit_above 0 0 n (omega arith) (omega arith)) (none_entered n)

  none_cleared : (buffer : List ℕ) (n : ℕ) → cleared_for b v 0 n buffer ≡ buffer
  unfolding cleared_for
  none_cleared buffer zero = refl
  none_cleared buffer (suc n) = rw (bit_above 0 0 n (omega arith) (omega arith)) (none_cleared buffer n)

  pub answered_none : length v.transfers ≡ 8 → (buffer : List ℕ) → Answered b v v 0 8 buffer buffer
  unfolding answered_transfer
  answered_none l buffer = record {
    transfers =
        table_is (λ m. cond (ltb m 8) (answered_transfer v 0 m) (transfer_at v m)) 8 no_transfer v.transfers l
        (λ m h. rw (lt-ltb m 8 h, bit_above 0 0 m (omega arith) (omega arith)));
    slots = refl;
    late = refl;
    log = sym (none_entered 8);
    buffer = sym (none_cleared buffer 8);
  }

-- ---- the clock

-- a transfer that ends for one of two reasons
either_ends : (t : Transfer) (c y : Bool) → cond c no_transfer (cond y no_transfer t) ≡ cond (c || y) no_transfer t
either_ends t true y = refl
either_ends t false y = refl

-- two masks that have no number in common
mask_both : (f g : ℕ → Bool) (n : ℕ) → ((m : ℕ) → f m ≡ true → g m ≡ false)
    → mask g n + mask f n ≡ mask (λ m. f m || g m) n
unfolding sum
mask_both f g zero apart = refl
mask_both f g (suc n) apart = go (f n) refl (g n) refl (mask_both f g n apart)
  where
    go : (c : Bool) → f n ≡ c → (d : Bool) → g n ≡ d → mask g n + mask f n ≡ mask (λ m. f m || g m) n
        → mask g n + cond d (2 ^ n) 0 + (mask f n + cond c (2 ^ n) 0) ≡ mask (λ m. f m || g m) n + cond (c || d) (2 ^ n) 0
    go true p true q e = absurd (true≢false (sym q ∙ apart n p))
    go true p false q e = omega (arith, e)
    go false p true q e = omega (arith, e)
    go false p false q e = omega (arith, e)

-- what stood before the clock is u; behind what the slaves did stand v and the bytes e
module _ (b : Board) (u : State) (l : length u.transfers ≡ 8) (k : length u.slots ≡ 16) (n : length u.late ≡ 8)
    (r : Passes b u) {v : State} {shown : List Line} {done : ℕ} {d e : Store} (a : Acted b u v shown done d e)
    {unmapped : ℕ} (q : unmapped ≡ unmapped_mask b u) where
  legal : Legal b
  legal = runs_legal b u l k n r

  stands : Sound b u
  stands = runs_sound b u l k n r

  bit_here : (m : ℕ) → m < 8 → bit unmapped m ≡ unmapped_at b u m
  unfolding unmapped_mask
  bit_here m h = ap (λ (x : ℕ). bit x m) q ∙ bit_mask (unmapped_at b u) 8 m h

  acted_transfer : (m : ℕ) → m < 8 → transfer_at v m ≡ cond (completed b u m) no_transfer (transfer_at u m)
  unfolding state_acted
  acted_transfer m h =
      ap (λ (x : State). transfer_at x m) a.state
      ∙ get_or_table (λ i. cond (completed b u i) no_transfer (transfer_at u i)) 8 no_transfer m h

  -- an unmapped transfer stands as it was
  held_still : (m : ℕ) → m < 8 → unmapped_at b u m ≡ true → transfer_at v m ≡ transfer_at u m
  held_still m h f = acted_transfer m h ∙ rw (unmapped_alone b u legal stands m f)

  acted_log : v.log ≡ u.log
  unfolding state_acted
  acted_log = ap (λ (x : State). x.log) a.state

  pub answerable : length e.buffer ≡ buffer_length → Answerable b v unmapped e.buffer
  answerable full = record {
    count = rw acted_log stands.log;
    room = full;
    fits = λ m h f.
        let here = sym (bit_here m h) ∙ f in
        let t = stands.holds m (unmapped_held b u m here) in
        rw (held_still m h here) (taken_bytes b legal m (transfer_at u m) t.1 t.0);
  }

  pub acted_full : length v.transfers ≡ 8
  unfolding state_acted
  acted_full = ap (λ (x : State). length x.transfers) a.state ∙ length_table (λ i. cond (completed b u i) no_transfer (transfer_at u i)) 8

  -- the log and the bytes are those of the clock
  entered_is : (i : ℕ) → i ≤ 8 → entered_for v unmapped i ≡ entered_by b u i
  unfolding entered_for entered_by
  entered_is zero h = acted_log
  entered_is (suc i) h = rw (bit_here i (omega arith), entered_is i (omega arith)) (go (unmapped_at b u i) refl)
    where
      go : (c : Bool) → unmapped_at b u i ≡ c
          → cond c (entered (entered_by b u i) (entry_of i (transfer_at v i))) (entered_by b u i)
          ≡ cond c (entered (entered_by b u i) (entry_of i (transfer_at u i))) (entered_by b u i)
      go true f = rw (held_still i (omega arith) f)
      go false f = refl

  cleared_is : (i : ℕ) → i ≤ 8
      → record { memory = e.memory; buffer = cleared_for b v unmapped i e.buffer } ≡ cleared_by b u i e
  unfolding cleared_for cleared_by cleared_at cleared_behind clears
  cleared_is zero h = refl
  cleared_is (suc i) h =
      rw (bit_here i (omega arith), ← cleared_is i (omega arith)) (go (unmapped_at b u i) refl)
    where
      before : List ℕ
      before = cleared_for b v unmapped i e.buffer

      words : ℕ
      words = bytes_held b u i

      wrote : (w : Bool)
          → record { memory = e.memory; buffer = cond w before (cleared_words i words before) }
          ≡ cond {A = Store} (true && not w) (record { memory = e.memory; buffer = cleared_words i words before })
          (record { memory = e.memory; buffer = before })
      wrote true = refl
      wrote false = refl

      go : (c : Bool) → unmapped_at b u i ≡ c
          → record { memory = e.memory; buffer = cond c (cleared_at b v i before) before }
          ≡ cond {A = Store} (c && not (transfer_at u i).write)
          (record { memory = e.memory; buffer = cleared_words i words before })
          (record { memory = e.memory; buffer = before })
      go true f = rw (held_still i (omega arith) f) (wrote (transfer_at u i).write)
      go false f = refl

  mask_is : done + unmapped ≡ mask_of b u
  unfolding mask_of unmapped_mask finished
  mask_is =
      rw (a.mask, q)
      (mask_both (unmapped_at b u) (completed b u) 8 (λ m f. unmapped_alone b u legal stands m f))

  pub mask_fits : done + unmapped < 256
  unfolding mask_of
  mask_fits = rw mask_is (mask_lt (finished b u) 8)

  module _ {w : State} {left : List ℕ} (p : Answered b v w unmapped 8 e.buffer left) where
    transfers_is : w.transfers ≡ (state_after b u).transfers
    unfolding state_after transfer_after answered_transfer finished
    transfers_is =
        p.transfers
        ∙ table_same _ _ 8
        (λ m h.
        rw (lt-ltb m 8 h, bit_here m h, acted_transfer m h)
        (either_ends (transfer_at u m) (unmapped_at b u m) (completed b u m)))

    pub cycle_is : Clocks b u w shown (done + unmapped) d (record { memory = e.memory; buffer = left })
    unfolding state_after state_acted log_after store_after
    cycle_is = record {
      state =
          let slots : w.slots ≡ (state_after b u).slots = p.slots ∙ ap (λ (x : State). x.slots) a.state in
          let late : w.late ≡ (state_after b u).late = p.late ∙ ap (λ (x : State). x.late) a.state in
          let log : w.log ≡ (state_after b u).log = p.log ∙ entered_is 8 (omega arith) in
          rw (transfers_is, slots, late, log) refl;
      lines = a.lines;
      mask = mask_is;
      store = rw p.buffer (cleared_is 8 (omega arith) ∙ ap (cleared_by b u 8) a.store);
    }

  -- with none that is unmapped the clock is what the slaves did
  pub cycle_none : unmapped ≡ 0 → Clocks b u v shown done d e
  cycle_none z =
      let p : Answered b v v unmapped 8 e.buffer e.buffer = rw z (answered_none b v acted_full e.buffer) in
      let f : done + unmapped ≡ done = omega (arith, z) in
      rw f at (cycle_is p)
