-- Readings whose board is an array of numbers: a refusal, each kind of line added, the end.
-- Assumes nothing.
use Rattle.std.proofs.Common.{◌≡◌, ℕ, ◌+◌, ◌*◌, ◌≤◌, true, false, List, Result, Ok, Err, ltb, replicate, refl, ap, sym, ◌∙◌, arith}
use lib.Seq.{set_out}
use Rattle.std.specs.Result.{is_err}
use Rattle.common_numbers.specs.declared.Refusal.{Refusal}
use Rattle.common_numbers.specs.Refusals.{refusal_number}
use Rattle.common_numbers.proofs.RefusalLaws.{refusal_not_zero}
use Rattle.description_board.specs.declared.Item.{Item}
use Rattle.description_board.specs.declared.Item.TheVariants.{MasterLine, SlaveLine, ShareLine, DefaultLine}
use Rattle.description_board.specs.Records.{SlaveNumbers}
use Rattle.description_board.specs.Records.{Slave}
use Rattle.description_board.specs.Rules.{master_refusal, slave_refusal, pair_rank, share_refusal, default_refusal, end_refusal}
use Rattle.description_board.specs.Rules.{item_refusal, rank_of, with_master, slave_of, with_slave, with_default, with_item}
use Rattle.description_board.specs.Rules.{refused, start, taken, step, finish}
use Rattle.description_board.proofs.StepAllLaws.{step_refused, step_taken, step_stays, finish_refused, finish_taken, finish_stays}
use Rattle.description_layout.specs.Layout.{board_length, board_in}
use Rattle.description_layout.specs.Code.Puts.{with_share_at}
use Rattle.description_layout.proofs.BoardLaws.{board_none, share_put_at, shares_length}
use Rattle.description_rules.specs.Code.Readings.{reading_of, Added}

-- a refusal with an array of zeros
pub of_zeros : (e : Refusal) (l : List ℕ) → l ≡ replicate board_length 0 → reading_of (Err e) l ≡ refused (refusal_number e)
unfolding reading_of refused
of_zeros e l z = rw (z, board_none)

-- before the first line
pub of_start : {l : List ℕ} → l ≡ replicate board_length 0 → reading_of (Ok 0) l ≡ start
unfolding reading_of start refused
of_start z = rw (z, board_none)

module _ (above : ℕ) (l : List ℕ) where
  -- a line that is refused: the array has no part in it
  pub line_refused : (x : Item) (e : Refusal) (m : List ℕ) → refusal_number e ≡ item_refusal (reading_of (Ok above) l) x
      → Added (reading_of (Ok above) l) x (Err e) m
  line_refused x e m h = record { number = h; line = λ z. refusal_not_zero e z }

  -- a line that is not
  line_added : (x : Item) (rank : ℕ) (m : List ℕ) → 0 ≡ item_refusal (reading_of (Ok above) l) x → rank ≡ rank_of x
      → board_in m ≡ with_item (board_in l) x → Added (reading_of (Ok above) l) x (Ok rank) m
  unfolding reading_of taken
  line_added x rank m h at b = record {
    number = h;
    line = λ z. rw (at, b) (step_taken (reading_of (Ok above) l) x refl h refl);
  }

  pub master_added : (w u : ℕ) (m : List ℕ) → 0 ≡ master_refusal (board_in l) w u → board_in m ≡ with_master (board_in l) w u
      → Added (reading_of (Ok above) l) (MasterLine w u) (Ok 0) m
  unfolding reading_of item_refusal with_item rank_of
  master_added w u m h b = line_added (MasterLine w u) 0 m h refl b

  pub slave_added : (k : SlaveNumbers) (s : Slave) (m : List ℕ) → 0 ≡ slave_refusal (board_in l) (ltb 0 above) k → s ≡ slave_of k
      → board_in m ≡ with_slave (board_in l) s → Added (reading_of (Ok above) l) (SlaveLine k) (Ok 0) m
  unfolding reading_of item_refusal with_item rank_of
  slave_added k s m h g b = line_added (SlaveLine k) 0 m h refl (b ∙ ap (with_slave (board_in l)) g)

  pub share_added : (i j k : ℕ) (m : List ℕ) {rank : ℕ} → 0 ≡ share_refusal (board_in l) above i j k
      → rank ≡ pair_rank i j → board_in m ≡ with_share_at (board_in l) (16 * i + j) k
      → Added (reading_of (Ok above) l) (ShareLine i j k) (Ok rank) m
  unfolding reading_of item_refusal with_item rank_of
  share_added i j k m h at b = line_added (ShareLine i j k) _ m h at (b ∙ share_put_at (board_in l) i j k)

  -- past the 128 shares of a board a share line changes nothing
  pub share_past : (i j k : ℕ) {rank : ℕ} → 0 ≡ share_refusal (board_in l) above i j k → rank ≡ pair_rank i j
      → 128 ≤ 16 * i + j → Added (reading_of (Ok above) l) (ShareLine i j k) (Ok rank) l
  unfolding with_share_at
  share_past i j k h at far = share_added i j k l h at
      (rw (set_out (board_in l).shares (16 * i + j) k (omega (arith, shares_length l))))

  pub default_added : (m : List ℕ) → 0 ≡ default_refusal (board_in l) → board_in m ≡ with_default (board_in l)
      → Added (reading_of (Ok above) l) DefaultLine (Ok 0) m
  unfolding reading_of item_refusal with_item rank_of
  default_added m h b = line_added DefaultLine 0 m h refl b

  -- a step whose line is refused clears the array
  pub step_stopped : (x : Item) (r : Result ℕ Refusal) (m z : List ℕ) → Added (reading_of (Ok above) l) x r m → true ≡ is_err r
      → z ≡ replicate board_length 0 → reading_of r z ≡ step (reading_of (Ok above) l) x
  unfolding reading_of
  step_stopped x (Ok rank) m z a h k = cc
  step_stopped x (Err e) m z a h k =
      of_zeros e z k ∙ step_refused (reading_of (Ok above) l) x refl a.number (λ q. refusal_not_zero e q)

  pub step_passed : (x : Item) (r : Result ℕ Refusal) (m : List ℕ) → Added (reading_of (Ok above) l) x r m → false ≡ is_err r
      → reading_of r m ≡ step (reading_of (Ok above) l) x
  step_passed x (Ok rank) m a h = a.line refl
  step_passed x (Err e) m a h = cc

  -- so does the end, if it is refused
  pub end_refused : (e : Refusal) (z : List ℕ) → refusal_number e ≡ end_refusal (board_in l) → z ≡ replicate board_length 0
      → reading_of (Err e) z ≡ finish (reading_of (Ok above) l)
  unfolding reading_of
  end_refused e z h k =
      of_zeros e z k ∙ finish_refused (reading_of (Ok above) l) refl h (λ z. refusal_not_zero e z)

  pub end_passed : 0 ≡ end_refusal (board_in l) → reading_of (Ok above) l ≡ finish (reading_of (Ok above) l)
  unfolding reading_of
  end_passed h = finish_taken (reading_of (Ok above) l) refl h refl

-- a refusal stays
module _ (e : Refusal) (l : List ℕ) where
  pub refusal_steps : (x : Item) → reading_of (Err e) l ≡ step (reading_of (Err e) l) x
  unfolding reading_of
  refusal_steps x = sym (step_stays (reading_of (Err e) l) x (λ z. refusal_not_zero e z))

  pub refusal_finishes : reading_of (Err e) l ≡ finish (reading_of (Err e) l)
  unfolding reading_of
  refusal_finishes = sym (finish_stays (reading_of (Err e) l) (λ z. refusal_not_zero e z))
