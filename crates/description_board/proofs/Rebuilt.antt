-- A board's own lines, read again: an accepted board comes back with zeros behind its counts, and the board that some lines
-- describe comes back as it is.
-- Assumes nothing.
use mathlib.Core.Path.{◌≡◌, refl, ap, ◌∙◌}
use mathlib.Core.List.{List}
use native.Mathlib.Omega.{arith}
use lib.ListN.{get_or}
use Rattle.common_laws.proofs.FrontLaws.{gather_same, table_same, front, front_is, front_all}
use Rattle.description_board.specs.declared.Board.{Board}
use Rattle.description_board.specs.declared.Item.{Item}
use Rattle.description_board.specs.Records.{no_master, no_slave, master_at, slave_at}
use Rattle.description_board.specs.Rules.{described}
use Rattle.description_board.specs.Items.{master_item, slave_item, share_item, items, board_refusal}
use Rattle.description_board.specs.Rebuilt.{trimmed}
use Rattle.description_board.proofs.BoardSound.{Sound, described_sound, described_legal}
use Rattle.description_board.proofs.ItemLaws.{line_same}
use Rattle.description_board.proofs.Accepted.{trimmed_master, trimmed_slave, trimmed_share}
use Rattle.description_board.proofs.Accepted.{accepted_legal, legal_accepted}

module _ (b : Board) (e : board_refusal b ≡ 0) where
  -- the trimmed board has the same lines
  pub items_trimmed : items (trimmed b) ≡ items b
  unfolding items trimmed master_item slave_item
  items_trimmed =
      let k = accepted_legal b e in
      rw (
        table_same (master_item (trimmed b).masters) (master_item b.masters) b.master_count
            (λ m l. rw (trimmed_master b k.few_masters m l)),
        table_same (slave_item (trimmed b).slaves) (slave_item b.slaves) b.slave_count
            (λ s l. rw (trimmed_slave b k.few_slaves s l)),
        gather_same (share_item (trimmed b).shares) (share_item b.shares) 128
            (λ i l. line_same (trimmed b).shares b.shares i (trimmed_share b i l)),
      )

  pub trimmed_check : board_refusal (trimmed b) ≡ 0
  unfolding board_refusal
  trimmed_check = ap (λ (l : List Item). (described l).number) items_trimmed ∙ e

-- a board with zeros behind its counts
trimmed_sound : (b : Board) → Sound b → trimmed b ≡ b
unfolding trimmed front
trimmed_sound b k =
    rw (
      ← front_is (master_at b) no_master 8 b.masters b.master_count k.master_places (λ m l h. refl)
          (λ m l h. k.master_end m l),
      ← front_is (slave_at b) no_slave 16 b.slaves b.slave_count k.slave_places (λ s l h. refl)
          (λ s l h. k.slave_end s l),
      ← front_all (λ i. get_or b.shares i 0) 0 128,
      ← front_is (λ i. get_or b.shares i 0) 0 128 b.shares 128 k.share_places (λ i l h. refl)
          (λ i l h. absurd (omega arith)),
    )

-- lines that are not refused: the check accepts their board, and its own lines describe it again
module _ (xs : List Item) (e : (described xs).number ≡ 0) where
  pub described_accepted : board_refusal (described xs).board ≡ 0
  described_accepted = legal_accepted _ (described_legal xs e)

  pub described_trimmed : trimmed (described xs).board ≡ (described xs).board
  described_trimmed = trimmed_sound _ (described_sound xs e)
