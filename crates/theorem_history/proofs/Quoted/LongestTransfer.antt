-- Each connected pair has a transfer exactly as long as its serve (rule 6.6): the one that its master posts for its last grant.
-- Assumes nothing.
use mathlib.Core.Path.{◌≡◌, refl, sym, ap, ◌∙◌}
use mathlib.Core.Bool.{true, false}
use Prim.Native.Nat.{ℕ, ◌≤◌, ◌<◌}
use native.Mathlib.Omega.{arith}
use Rattle.description_board.specs.declared.Board.{Board}
use Rattle.description_board.specs.Records.{master_at, slave_at, shares_at, connected}
use Rattle.description_board.specs.Items.{board_refusal}
use Rattle.description_board.specs.Legal.{Legal}
use Rattle.description_board.proofs.PairLaws.{connected_pair}
use Rattle.fabric_transfer.specs.Accesses.{own_length}
use Rattle.fabric_state.specs.Records.{transfer_at}
use Rattle.fabric_state.specs.Posting.{Request}
use Rattle.fabric_calls.specs.Calls.{World, post}
use Rattle.fabric_state.proofs.StateLaws.{transfer_reset}
use Rattle.wait_turns.specs.Waits.{serve_of}
use Rattle.wait.specs.Calls.{Quoted, quote_of}
use Rattle.wait.proofs.LookUpLaws.{quote_connected}
use Rattle.theorem_history.specs.Claim.{Start, Lent, Accepted, slave_for, length_of, Longest}
use Rattle.theorem_history.proofs.Histories.OnePost.{Taken}
use Rattle.theorem_history.proofs.Histories.Standing.{start_state, start_stands}
use Rattle.theorem_history.proofs.Histories.Unrefused.{post_free}
use Rattle.theorem_history.proofs.Exact.DueRequests.{request_for, transfer_for, last_serve, request_slave, request_taken}

module _
    (b : Board) (legal : Legal b) (ok : board_refusal b ≡ 0) (w : World) (m s : ℕ) (start : Start b w) (lent : Lent b w)
    (hm : m < b.master_count) (c : connected b m s ≡ true)
  where
    hs : s < b.slave_count
    hs = (connected_pair b m s c).0

    has : 1 ≤ shares_at b m s
    has = (connected_pair b m s c).1

    -- the longest transfer of m at s, posted after the reset
    abbrev last : Request
    last = request_for b s m 0

    free : (transfer_at w.state m).held ≡ false
    free = rw (start_state b w start, transfer_reset b m)

    last_taken : Taken b w.state last
    last_taken = request_taken b legal s hs m hm has w.state 0 free

    last_slave : slave_for b last ≡ s
    last_slave = request_slave b legal s hs m hm has 0

    last_long : length_of b last ≡ serve_of b m s
    unfolding length_of serve_of request_for transfer_for
    last_long =
        let same = ap (λ (k : ℕ). own_length (master_at b m) (slave_at b k) (transfer_for b s m 0)) last_slave in
        omega (arith, same, last_serve b legal s hs m hm 0 refl)

    quoted_serve : (quote_of b m (slave_for b last)).serve ≡ serve_of b m s
    quoted_serve =
        ap (λ (k : ℕ). (quote_of b m k).serve) last_slave ∙ ap (λ (a : Quoted). a.serve) (quote_connected b m s ok hm c)

    pub longest : Longest b w m s
    unfolding Accepted post request_for
    longest = record {
      request = last;
      accepted = post_free b legal ok w (start_stands b legal w start lent) last last_taken;
      master = refl;
      slave = last_slave;
      lasts = last_long ∙ sym quoted_serve;
    }
