-- A layout server's step, seen from one epoch.
use Rattle.std.proofs.Common.{◌≡◌, ◌⊎◌, ℕ, List, [], ◌∷◌, Bool, true, false, refl, sym, ap, ◌∙◌, subst, inl, inr, arith, Some, Option, cond, eqb}
use Rattle.std.specs.Ordering.{nat_cmp}
use Rattle.std.specs.Map.{lookup}
use Rattle.std.specs.BTreeMap.{insert_entry, is_at}
use Rattle.tg_base.specs.Layouts.{Layout}
use Rattle.tg_base.specs.declared.ids.Ballot.{Ballot}
use Rattle.tg_base.specs.declared.msg.Msg.{Msg}
use Rattle.tg_base.specs.declared.msg.Msg.TheVariants as msg
use Rattle.tg_base.specs.declared.packet.Packet.{Packet}
use Rattle.tg_protocol.specs.Words.{ballot_lt}
use Rattle.tg_protocol.specs.LayoutServers.{LayoutState, LayoutAsk, Prepares, Accepts, Tells, Asks, Nothing, Vote, vote_of, vote_or, with_vote, layout_ask, on_layout_ask, layout_step, LayoutTurn, past_first, on_prepare, on_accept, on_decided}
use Rattle.tg_protocol.specs.Reconfiguring.{Before}
use Rattle.tg_law_layouts.proofs.Agreement.Facts.{Proposed, Promised, Covers, Accepts as Acceptance}

abbrev votes_at : List (ℕ × Vote) → ℕ → Option Vote
votes_at es e = lookup (is_at (nat_cmp e)) es

stored_more : (x : ℕ × Vote) (es : List (ℕ × Vote)) (k : ℕ) (v : Vote) (e : ℕ) → votes_at (insert_entry nat_cmp es k v) e ≡ cond (eqb e k) (Some v) (votes_at es e)
    → votes_at (insert_entry nat_cmp (x ∷ es) k v) e ≡ cond (eqb e k) (Some v) (votes_at (x ∷ es) e)
stored_more x es k v e ih = grind arith

vote_stored : (es : List (ℕ × Vote)) (k : ℕ) (v : Vote) (e : ℕ) → votes_at (insert_entry nat_cmp es k v) e ≡ cond (eqb e k) (Some v) (votes_at es e)
vote_stored [] k v e = grind arith
vote_stored (x ∷ es) k v e = stored_more x es k v e (vote_stored es k v e)

-- how a server's vote of epoch e moves from v to u by a message, and what it says
pub data Moved (e : ℕ) (v : Vote) (m : Msg) (u : Vote) (says : Option Msg) : Type 0 where
  Kept : (same : u ≡ v) → (no_promise : (b : Ballot) (a : Before) → says ≡ Some (msg.Promise e b a) → ⊥)
      → (no_acceptance : (b : Ballot) → says ≡ Some (msg.Accepted e b) → ⊥)
      → (no_proposal : (b : Ballot) (q : Layout) → says ≡ Some (msg.Accept e b q) → ⊥) → Moved e v m u says
  Promises : (b : Ballot) → (above : ballot_lt b v.promised ≡ false) → (is : u ≡ record { promised = b; accepted = v.accepted })
      → (said : says ≡ Some (msg.Promise e b v.accepted)) → Moved e v m u says
  Votes : (b : Ballot) (q : Layout) → (asked : m ≡ msg.Accept e b q) → (above : ballot_lt b v.promised ≡ false)
      → (is : u ≡ record { promised = b; accepted = Some (b, q) }) → (said : says ≡ Some (msg.Accepted e b)) → Moved e v m u says

abbrev MovedTo : ℕ → LayoutState → Msg → LayoutTurn → Type 0
MovedTo e s m t = Moved e (vote_of s e) m (vote_of t.now e) t.says

kept : (e : ℕ) (s : LayoutState) (m : Msg) (t : LayoutTurn) → t.now.votes ≡ s.votes → ((b : Ballot) (a : Before) → t.says ≡ Some (msg.Promise e b a) → ⊥)
    → ((b : Ballot) → t.says ≡ Some (msg.Accepted e b) → ⊥) → ((b : Ballot) (q : Layout) → t.says ≡ Some (msg.Accept e b q) → ⊥) → MovedTo e s m t
kept e s m t same p a q = Kept (ap (λ (es : List (ℕ × Vote)). vote_or (votes_at es e)) same) p a q

same_epoch : (e f : ℕ) → (e ≡ f) ⊎ (eqb e f ≡ false)
same_epoch e f = grind arith

other_vote : (s : LayoutState) (f e : ℕ) (v : Vote) → eqb e f ≡ false → vote_of (with_vote s f v) e ≡ vote_of s e
other_vote s f e v h = ap vote_or (vote_stored s.votes f v e ∙ ap (λ (b : Bool). cond b (Some v) (votes_at s.votes e)) h)

own_vote : (s : LayoutState) (e : ℕ) (v : Vote) → vote_of (with_vote s e v) e ≡ v
own_vote s e v = ap vote_or (vote_stored s.votes e v e ∙ ap (λ (b : Bool). cond b (Some v) (votes_at s.votes e)) (itself e))
  where
    itself : (k : ℕ) → eqb k k ≡ true
    itself k = grind arith

prepare_moves : (e : ℕ) (s : LayoutState) (m : Msg) (f : ℕ) (b : Ballot) (less : Bool) → ballot_lt b (vote_of s f).promised ≡ less
    → MovedTo e s m (on_prepare s f b (vote_of s f) less)
prepare_moves e s m f b true h = kept e s m (on_prepare s f b (vote_of s f) true) refl (λ c a x. cc) (λ c x. cc) (λ c q x. cc)
prepare_moves e s m f b false h = by (same_epoch e f)
  where
    v : Vote
    v = record { promised = b; accepted = (vote_of s f).accepted }

    by : (e ≡ f) ⊎ (eqb e f ≡ false) → MovedTo e s m (on_prepare s f b (vote_of s f) false)
    by (inl is) = subst (λ (d : ℕ). MovedTo d s m (on_prepare s f b (vote_of s f) false)) (sym is) (Promises b h (own_vote s f v) refl)
    by (inr other) = Kept (other_vote s f e v other) (λ c a x. grind arith) (λ c x. cc) (λ c q x. cc)

accept_moves : (e : ℕ) (s : LayoutState) (m : Msg) (f : ℕ) (b : Ballot) (q : Layout) (less : Bool) → m ≡ msg.Accept f b q → ballot_lt b (vote_of s f).promised ≡ less
    → MovedTo e s m (on_accept s f b q (vote_of s f) less)
accept_moves e s m f b q true is h = kept e s m (on_accept s f b q (vote_of s f) true) refl (λ c a x. cc) (λ c x. cc) (λ c q x. cc)
accept_moves e s m f b q false asked h = by (same_epoch e f)
  where
    v : Vote
    v = record { promised = b; accepted = Some (b, q) }

    by : (e ≡ f) ⊎ (eqb e f ≡ false) → MovedTo e s m (on_accept s f b q (vote_of s f) false)
    by (inl is) = subst (λ (d : ℕ). MovedTo d s m (on_accept s f b q (vote_of s f) false)) (sym is) (Votes b q asked h (own_vote s f v) refl)
    by (inr other) = Kept (other_vote s f e v other) (λ c a x. cc) (λ c x. grind arith) (λ c q x. cc)

past_moves : (e : ℕ) (s : LayoutState) (m : Msg) (first : Bool) (t : LayoutTurn) → MovedTo e s m t → MovedTo e s m (past_first first s t)
past_moves e s m true t moved = kept e s m (past_first true s t) refl (λ c a x. cc) (λ c x. cc) (λ c q x. cc)
past_moves e s m false t moved = moved

decided_moves : (e : ℕ) (s : LayoutState) (m : Msg) (q : Layout) (newer : Bool) → MovedTo e s m (on_decided s q newer)
decided_moves e s m q true = kept e s m (on_decided s q true) refl (λ c a x. cc) (λ c x. cc) (λ c q x. cc)
decided_moves e s m q false = kept e s m (on_decided s q false) refl (λ c a x. cc) (λ c x. cc) (λ c q x. cc)

asked_accept : (m : Msg) (f : ℕ) (b : Ballot) (q : Layout) → layout_ask m ≡ Accepts f b q → m ≡ msg.Accept f b q
unfolding layout_ask
asked_accept m f b q h = grind arith

ask_moves : (e : ℕ) (s : LayoutState) (m : Msg) (a : LayoutAsk) → layout_ask m ≡ a → MovedTo e s m (on_layout_ask s a)
unfolding on_layout_ask
ask_moves e s m (Prepares f b) is = past_moves e s m _ _ (prepare_moves e s m f b _ refl)
ask_moves e s m (Accepts f b q) is = past_moves e s m _ _ (accept_moves e s m f b q _ (asked_accept m f b q is) refl)
ask_moves e s m (Tells q) is = decided_moves e s m q _
ask_moves e s m Asks is = kept e s m (on_layout_ask s Asks) refl (λ c a x. cc) (λ c x. cc) (λ c q x. cc)
ask_moves e s m Nothing is = kept e s m (on_layout_ask s Nothing) refl (λ c a x. cc) (λ c x. cc) (λ c q x. cc)

pub server_moves : (e : ℕ) (s : LayoutState) (m : Msg) → MovedTo e s m (layout_step s m)
unfolding layout_step
server_moves e s m = ask_moves e s m (layout_ask m) refl

-- What a server that stands at a vote has told, among these packets.
pub record Stands (e : ℕ) (ps : List Packet) (l : ℕ) (v : Vote) : Type 0 where
  pub promised : (b : Ballot) (a : Before) → Promised e ps l b a → ballot_lt v.promised b ≡ false
  pub covered : (b : Ballot) → Acceptance e ps l b → Covers v.accepted b
  pub proposed : (x : Ballot × Layout) → v.accepted ≡ Some x → Proposed e ps x.0 x.1 × (ballot_lt v.promised x.0 ≡ false)
