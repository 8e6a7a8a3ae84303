-- A call of a history, by cases: refused, a post taken, a clock taken, an entry taken, with what each leaves and answers. From them the
-- ways to go through a history (rule 6.1): what the calls keep, also of the byte memory and of the log, and what they say of the answers.
-- Assumes nothing.
use mathlib.Core.Path.{◌≡◌, refl, sym, subst₂, subst₃, ◌∙◌}
use mathlib.Core.Bool.{Bool, true, false, cond, true≢false}
use mathlib.Core.List.{List, [], ◌∷◌}
use mathlib.Core.Logic.{◌⊎◌, ⊎_elim, ◌≢◌}
use Prim.Native.Nat.{ℕ, zero, suc}
use native.Mathlib.Omega.{arith}
use lib.Dec.{eqb}
use lib.ListN.{length, get_or, drop, replicate}
use borrow.Author.Tests.{eqb-true, eqb-false, eq-eqb, ne_eqb}
use Rattle.common_laws.specs.Bits.{bit}
use Rattle.common_laws.proofs.BitLaws.{bit_above}
use Rattle.common_laws.proofs.TableLaws.{get_or_replicate_all}
use Rattle.description_board.specs.declared.Board.{Board}
use Rattle.fabric_transfer.specs.Bytes.{Store, posted_words}
use Rattle.fabric_state.specs.declared.State.{State}
use Rattle.fabric_state.specs.declared.Clocked.{Clocked}
use Rattle.fabric_state.specs.Posting.{Request, transfer_of, with_transfer}
use Rattle.fabric_state.specs.Control.{state_after, responses_of, lines_of}
use Rattle.fabric_state.specs.Logging.{without_oldest, with_log}
use Rattle.fabric_state.specs.Clocking.{clocked_of, refused_clock}
use Rattle.fabric_state.specs.Carrying.{store_after}
use Rattle.fabric_calls.specs.Calls.{World, post_refusal, post, buffer_after_post, after_post, clock_refusal, clock, store_after_clock}
use Rattle.fabric_calls.specs.Calls.{take_refusal, take_answer}
use Rattle.fabric_calls.proofs.RunOfClocks.{clock_is}
use Rattle.fabric_calls.proofs.TakeLaws.{take_number, left_taken}
use Rattle.theorem_history.specs.Claim.{Call, posts, clocks, takes, number_answered, Handed, leaves, next, after, History}
use Rattle.theorem_history.specs.Claim.{answers, names, update, Reference, Order, seen_all, fed_post, fed}
use Rattle.theorem_history.specs.Claim.{Logged, log_responses, log_calls}

-- ---- a call where w stands

abbrev pub post_at : Board → World → Request → Call
post_at b w q = posts b w.state w.store.buffer q

abbrev pub clock_at : Board → World → Call
clock_at b w = clocks b w.state w.store

abbrev pub take_at : Board → World → Call
take_at b w = takes b w.state

-- it is taken
abbrev pub TakesPost : Board → World → Request → Type 0
TakesPost b w q = post_refusal b w.state w.store.buffer q ≡ 0

abbrev pub TakesClock : Board → World → Type 0
TakesClock b w = clock_refusal b w.state w.store ≡ 0

abbrev pub TakesEntry : Board → World → Type 0
TakesEntry b w = take_refusal b w.state ≡ 0

-- what a post that is taken leaves
abbrev pub with_post : World → Request → World
with_post w q = record {
  state = with_transfer w.state q.master (transfer_of q);
  store = record { memory = w.store.memory; buffer = posted_words q.master q.words w.store.buffer };
}

-- what a clock that is taken leaves, and answers
abbrev pub with_clock : Board → World → World
with_clock b w = record { state = state_after b w.state; store = store_after b w.state w.store }

abbrev pub answer_of : Board → World → Clocked
answer_of b w = clocked_of b w.state

-- what a take that is taken leaves: the log is another, and nothing else
abbrev pub with_take : World → World
with_take w = record { state = with_log w.state (without_oldest w.state.log); store = w.store }

-- what the log is told of a post and of a take (rule 6.13)
abbrev pub logged_post : Request → Logged → Logged
logged_post q k = record { request = update k.request q.master q; entries = k.entries; lost = k.lost }

abbrev pub logged_take : Logged → Logged
logged_take k = record { request = k.request; entries = drop 1 k.entries; lost = k.lost }

pub clock_number : (b : Board) (st : State) (d : Store) → (clock b st d).number ≡ clock_refusal b st d
unfolding clock
clock_number b st d = go (eqb (clock_refusal b st d) 0) refl
  where
    go : (c : Bool) → eqb (clock_refusal b st d) 0 ≡ c → (clock b st d).number ≡ clock_refusal b st d
    go true e = rw e (sym (eqb-true (clock_refusal b st d) 0 e))
    go false e = rw e

-- a clock that is refused
pub clock_refused : (b : Board) (st : State) (d : Store) → (clock b st d).number ≢ 0
    → clock b st d ≡ refused_clock (clock_refusal b st d) st
unfolding clock
clock_refused b st d h = rw (ne_eqb (clock_refusal b st d) 0 (λ z. h (clock_number b st d ∙ z)))

-- a clock whose mask has a master was not refused
pub named_taken : (b : Board) (st : State) (d : Store) (m : ℕ) → names m (clock b st d) ≡ true → clock_refusal b st d ≡ 0
unfolding names clock
named_taken b st d m = go (eqb (clock_refusal b st d) 0) refl
  where
    go : (c : Bool) → eqb (clock_refusal b st d) 0 ≡ c
        → bit (cond c (clocked_of b st) (refused_clock (clock_refusal b st d) st)).mask m ≡ true → clock_refusal b st d ≡ 0
    go true e n = eqb-true (clock_refusal b st d) 0 e
    go false e n = absurd (true≢false (sym n ∙ bit_above 0 0 m (omega arith) (omega arith)))

-- what the next call gets
refused_next : (w : World) (c : Call) → number_answered c ≢ 0 → next w c ≡ w
unfolding next
refused_next w c h = rw (ne_eqb (number_answered c) 0 h)

pub taken_next : (w : World) (c : Call) → number_answered c ≡ 0 → next w c ≡ leaves w c
unfolding next
taken_next w c e = rw (eq-eqb (number_answered c) 0 e)

module _ (b : Board) (w : World) where
  pub post_leaves : (q : Request) → TakesPost b w q → after_post b w q ≡ with_post w q
  unfolding after_post post buffer_after_post
  post_leaves q e = rw (eq-eqb (post_refusal b w.state w.store.buffer q) 0 e)

  pub post_next : (q : Request) → TakesPost b w q → next w (post_at b w q) ≡ with_post w q
  unfolding number_answered leaves post after_post
  post_next q e = taken_next w (post_at b w q) e ∙ post_leaves q e

  pub clock_next : TakesClock b w → next w (clock_at b w) ≡ with_clock b w
  unfolding number_answered leaves clock store_after_clock
  clock_next e =
      taken_next w (clock_at b w) (clock_number b w.state w.store ∙ e)
      ∙ rw (eq-eqb (clock_refusal b w.state w.store) 0 e)

  pub take_next : TakesEntry b w → next w (take_at b w) ≡ with_take w
  unfolding number_answered leaves
  take_next e = taken_next w (take_at b w) (take_number b w.state ∙ e) ∙ rw (left_taken b w.state e)

  pub clock_answered : TakesClock b w → (cs : List Call) → answers (clock_at b w ∷ cs) ≡ answer_of b w ∷ answers cs
  unfolding answers
  clock_answered e cs = rw (clock_is b w.state w.store e)

-- ---- how a call of a history came

-- where no response is 3 nothing is logged, so a refused clock tells the log nothing
silent_log : (rs : List ℕ) (n : ℕ) (k : Logged) → ((i : ℕ) → get_or rs i 0 ≡ 0) → log_responses rs n k ≡ k
unfolding log_responses
silent_log rs zero k h = refl
silent_log rs (suc n) k h = rw (h n) (silent_log rs n k h)

-- each with what the next call gets, what it adds to the answers, and what the byte memory and the log are told by it
data Came (b : Board) (w : World) (c : Call) : Type 0 where
  refused : next w c ≡ w
      → ((cs : List Call) → answers (c ∷ cs) ≡ answers cs)
      → ((orders : ℕ → Order) (r : Reference) (cs : List Call) → fed b orders r (c ∷ cs) ≡ fed b orders r cs)
      → ((k : Logged) (cs : List Call) → log_calls k (c ∷ cs) ≡ log_calls k cs)
      → Came b w c
  post_taken : (q : Request) → TakesPost b w q → next w c ≡ with_post w q
      → ((cs : List Call) → answers (c ∷ cs) ≡ answers cs)
      → ((orders : ℕ → Order) (r : Reference) (cs : List Call) → fed b orders r (c ∷ cs) ≡ fed b orders (fed_post q r) cs)
      → ((k : Logged) (cs : List Call) → log_calls k (c ∷ cs) ≡ log_calls (logged_post q k) cs)
      → Came b w c
  clock_taken : TakesClock b w → next w c ≡ with_clock b w
      → ((cs : List Call) → answers (c ∷ cs) ≡ answer_of b w ∷ answers cs)
      → ((orders : ℕ → Order) (r : Reference) (cs : List Call)
      → fed b orders r (c ∷ cs) ≡ fed b orders (seen_all b (orders (length cs)).slaves (lines_of b w.state) r) cs)
      → ((k : Logged) (cs : List Call) → log_calls k (c ∷ cs) ≡ log_calls (log_responses (responses_of b w.state) 8 k) cs)
      → Came b w c
  take_taken : TakesEntry b w → next w c ≡ with_take w
      → ((cs : List Call) → answers (c ∷ cs) ≡ answers cs)
      → ((orders : ℕ → Order) (r : Reference) (cs : List Call) → fed b orders r (c ∷ cs) ≡ fed b orders r cs)
      → ((k : Logged) (cs : List Call) → log_calls k (c ∷ cs) ≡ log_calls (logged_take k) cs)
      → Came b w c

module _ (b : Board) (w : World) where
  refused_call : (c : Call) → number_answered c ≢ 0 → Came b w c
  unfolding number_answered answers fed log_calls
  refused_call (posts b' st buffer q) h =
      let no = ne_eqb (post b' st buffer q).number 0 h in
      refused (refused_next w (posts b' st buffer q) h) (λ cs. refl) (λ orders r cs. rw no) (λ k cs. rw no)
  refused_call (clocks b' st d) h =
      let no = ne_eqb (clock b' st d).number 0 h in
      refused (refused_next w (clocks b' st d) h) (λ cs. rw no) (λ orders r cs. rw no)
      (λ k cs. rw (clock_refused b' st d h, silent_log (replicate 8 0) 8 k (λ i. get_or_replicate_all 8 i 0)))
  refused_call (takes b' st) h =
      refused (refused_next w (takes b' st) h) (λ cs. refl) (λ orders r cs. refl)
      (λ k cs. rw (ne_eqb (take_answer b' st).number 0 h))

  post_came : (q : Request) → number_answered (post_at b w q) ≡ 0 → Came b w (post_at b w q)
  unfolding number_answered answers fed post log_calls
  post_came q e =
      let yes = eq-eqb (post_refusal b w.state w.store.buffer q) 0 e in
      post_taken q e (post_next b w q e) (λ cs. refl) (λ orders r cs. rw yes) (λ k cs. rw yes)

  clock_came : number_answered (clock_at b w) ≡ 0 → Came b w (clock_at b w)
  unfolding number_answered fed log_calls
  clock_came e =
      let z = sym (clock_number b w.state w.store) ∙ e in
      let answer = clock_is b w.state w.store z in
      clock_taken z (clock_next b w z) (clock_answered b w z) (λ orders r cs. rw answer) (λ k cs. rw answer)

  take_came : number_answered (take_at b w) ≡ 0 → Came b w (take_at b w)
  unfolding number_answered answers fed log_calls
  take_came e =
      let z = sym (take_number b w.state) ∙ e in
      take_taken z (take_next b w z) (λ cs. refl) (λ orders r cs. refl)
      (λ k cs. rw (eq-eqb (take_answer b w.state).number 0 e))

  taken_call : (c : Call) → Handed b w c → number_answered c ≡ 0 → Came b w c
  unfolding Handed
  taken_call (posts b' st buffer q) h e =
      subst₃ (λ (x : Board) (y : State) (z : List ℕ). number_answered (posts x y z q) ≡ 0 → Came b w (posts x y z q))
      (sym h.0) (sym h.1) (sym h.2) (post_came q) e
  taken_call (clocks b' st d) h e =
      subst₃ (λ (x : Board) (y : State) (z : Store). number_answered (clocks x y z) ≡ 0 → Came b w (clocks x y z))
      (sym h.0) (sym h.1) (sym h.2) clock_came e
  taken_call (takes b' st) h e =
      subst₂ (λ (x : Board) (y : State). number_answered (takes x y) ≡ 0 → Came b w (takes x y))
      (sym h.0) (sym h.1) take_came e

  came : (c : Call) → (number_answered c ≢ 0) ⊎ Handed b w c → Came b w c
  came c h = go (eqb (number_answered c) 0) refl
    where
      go : (t : Bool) → eqb (number_answered c) 0 ≡ t → Came b w c
      go true e =
          let z = eqb-true (number_answered c) 0 e in
          ⊎_elim (λ n. absurd (n z)) (λ p. taken_call c p z) h
      go false e = refused_call c (eqb-false (number_answered c) 0 e)

-- ---- through a history

-- what is true of what stands and of the answers that are still to come, where the calls that are taken keep it
module _ (b : Board) (P : World → List Clocked → Type 0)
    (post : (w : World) (q : Request) → TakesPost b w q → (xs : List Clocked) → P w xs → P (with_post w q) xs)
    (clock : (w : World) → TakesClock b w → (xs : List Clocked) → P w (answer_of b w ∷ xs) → P (with_clock b w) xs)
    (take : (w : World) → TakesEntry b w → (xs : List Clocked) → P w xs → P (with_take w) xs) where
  leads_call : (w : World) (c : Call) (cs : List Call) → Came b w c → P w (answers (c ∷ cs)) → P (next w c) (answers cs)
  leads_call w c cs (refused e f g l) x = rw e (rw (f cs) at x)
  leads_call w c cs (post_taken q t e f g l) x = rw e (post w q t (answers cs) (rw (f cs) at x))
  leads_call w c cs (clock_taken t e f g l) x = rw e (clock w t (answers cs) (rw (f cs) at x))
  leads_call w c cs (take_taken t e f g l) x = rw e (take w t (answers cs) (rw (f cs) at x))

  pub leads : (cs : List Call) (w : World) → History b w cs → P w (answers cs) → P (after w cs) []
  unfolding History after answers
  leads [] w h x = x
  leads (c ∷ cs) w h x = leads cs (next w c) h.1 (leads_call w c cs (came b w c h.0) x)

-- of what stands alone
pub keeps : (b : Board) (P : World → Type 0)
    → ((w : World) (q : Request) → TakesPost b w q → P w → P (with_post w q))
    → ((w : World) → TakesClock b w → P w → P (with_clock b w))
    → ((w : World) → TakesEntry b w → P w → P (with_take w))
    → (cs : List Call) (w : World) → History b w cs → P w → P (after w cs)
keeps b P post clock take =
    leads b (λ w xs. P w) (λ w q t xs x. post w q t x) (λ w t xs x. clock w t x) (λ w t xs x. take w t x)

-- and of the byte memory
module _ (b : Board) (orders : ℕ → Order) (P : World → Reference → Type 0)
    (post : (w : World) (r : Reference) (q : Request) → TakesPost b w q → P w r → P (with_post w q) (fed_post q r))
    (clock : (w : World) (r : Reference) (order : Order) → TakesClock b w → P w r
    → P (with_clock b w) (seen_all b order.slaves (lines_of b w.state) r))
    (take : (w : World) (r : Reference) → TakesEntry b w → P w r → P (with_take w) r) where
  -- what the rest of the calls makes of it
  abbrev Rest : World → List Call → Type 0
  Rest w cs = (r : Reference) → P w r → P (after w cs) (fed b orders r cs)

  feeds_call : (w : World) (c : Call) (cs : List Call) → Came b w c → Rest (next w c) cs → Rest w (c ∷ cs)
  unfolding after
  feeds_call w c cs (refused e f g l) rest r x = rw (g orders r cs) (rest r (rw e x))
  feeds_call w c cs (post_taken q t e f g l) rest r x = rw (g orders r cs) (rest (fed_post q r) (rw e (post w r q t x)))
  feeds_call w c cs (clock_taken t e f g l) rest r x =
      rw (g orders r cs) (rest _ (rw e (clock w r (orders (length cs)) t x)))
  feeds_call w c cs (take_taken t e f g l) rest r x = rw (g orders r cs) (rest r (rw e (take w r t x)))

  pub feeds : (cs : List Call) (w : World) → History b w cs → Rest w cs
  unfolding History after fed
  feeds [] w h r x = x
  feeds (c ∷ cs) w h r x = feeds_call w c cs (came b w c h.0) (λ s. feeds cs (next w c) h.1 s) r x

-- and of the log
module _ (b : Board) (P : World → Logged → Type 0)
    (post : (w : World) (k : Logged) (q : Request) → TakesPost b w q → P w k → P (with_post w q) (logged_post q k))
    (clock : (w : World) (k : Logged) → TakesClock b w → P w k
    → P (with_clock b w) (log_responses (responses_of b w.state) 8 k))
    (take : (w : World) (k : Logged) → TakesEntry b w → P w k → P (with_take w) (logged_take k)) where
  abbrev RestOfLog : World → List Call → Type 0
  RestOfLog w cs = (k : Logged) → P w k → P (after w cs) (log_calls k cs)

  logs_call : (w : World) (c : Call) (cs : List Call) → Came b w c → RestOfLog (next w c) cs → RestOfLog w (c ∷ cs)
  unfolding after
  logs_call w c cs (refused e f g l) rest k x = rw (l k cs) (rest k (rw e x))
  logs_call w c cs (post_taken q t e f g l) rest k x = rw (l k cs) (rest (logged_post q k) (rw e (post w k q t x)))
  logs_call w c cs (clock_taken t e f g l) rest k x = rw (l k cs) (rest _ (rw e (clock w k t x)))
  logs_call w c cs (take_taken t e f g l) rest k x = rw (l k cs) (rest (logged_take k) (rw e (take w k t x)))

  pub logs : (cs : List Call) (w : World) → History b w cs → RestOfLog w cs
  unfolding History after log_calls
  logs [] w h k x = x
  logs (c ∷ cs) w h k x = logs_call w c cs (came b w c h.0) (λ s. logs cs (next w c) h.1 s) k x

-- what is true of what stands and of the answers that follow
module _ (b : Board) (P : World → List Clocked → Type 0)
    (none : (w : World) → P w [])
    (post : (w : World) (q : Request) → TakesPost b w q → (xs : List Clocked) → P (with_post w q) xs → P w xs)
    (clock : (w : World) → TakesClock b w → (xs : List Clocked) → P (with_clock b w) xs → P w (answer_of b w ∷ xs))
    (take : (w : World) → TakesEntry b w → (xs : List Clocked) → P (with_take w) xs → P w xs) where
  tells_call : (w : World) (c : Call) (cs : List Call) → Came b w c → P (next w c) (answers cs) → P w (answers (c ∷ cs))
  tells_call w c cs (refused e f g l) x = rw (f cs) (rw e at x)
  tells_call w c cs (post_taken q t e f g l) x = rw (f cs) (post w q t (answers cs) (rw e at x))
  tells_call w c cs (clock_taken t e f g l) x = rw (f cs) (clock w t (answers cs) (rw e at x))
  tells_call w c cs (take_taken t e f g l) x = rw (f cs) (take w t (answers cs) (rw e at x))

  pub tells : (cs : List Call) (w : World) → History b w cs → P w (answers cs)
  unfolding History answers
  tells [] w h = none w
  tells (c ∷ cs) w h = tells_call w c cs (came b w c h.0) (tells cs (next w c) h.1)
