-- The tail with which a sync ends, and the position with which an append does, lie past a bound; and the tail of the same
-- sequencer, and the start of each later layout, lie at or past them.
use Rattle.std.proofs.Common.{◌≡◌, ℕ, ◌-◌, ◌<◌, ◌≤◌, List, false, refl, sym, ◌∙◌, subst, arith, Option, Some, None}
use Rattle.std.specs.Prelude.{nat_lt, nat_le}
use Rattle.std.proofs.lemmas.Bool.Decides.{nat_tests}
use Rattle.tg_base.specs.Layouts.{Layout}
use Rattle.tg_base.specs.declared.cell.Cell.{Cell}
use Rattle.tg_base.specs.declared.marks.StreamLink.{StreamLink}
use Rattle.tg_base.specs.declared.packet.Out.{Out}
use Rattle.tg_entry.specs.declared.entry.Entry.{Entry}
use Rattle.tg_protocol.specs.Requests.{Next, Goes, Learns, Ends}
use Rattle.tg_protocol.specs.Replies.{Reply, IsTail, IsIssued}
use Rattle.tg_protocol.specs.Cells.{CellJob, CellEnd, Done, Gone, cell_asks, cell_feed}
use Rattle.tg_protocol.specs.Appending.{AppendWork, Asking, Putting, Judging, Token, Append, AppendEnd, At, append_feed, append_again}
use Rattle.tg_protocol.specs.Syncing.{Answer, SyncWork, Checking, Settling, Probing, Sync, Confirmed, sync_feed}
use Rattle.tg_law_layouts.proofs.Moves.Draws.{NextDraws}
use Rattle.tg_law_layouts.proofs.Moves.Machines.{cell_feed_draws}
use Rattle.tg_law_walks.proofs.Walks.Turns as turns
use Rattle.tg_law_walks.proofs.Walks.Turns.{cell_fine}
use Rattle.tg_law_steps.proofs.Machines.Syncs.{SyncCame, Waits, NewerCame, FillsBelow, ProbesBelow, SettlesOn, IsSettled, ProbesTrimmed, ProbesOn, IsProbed, sync_came}
use Rattle.tg_law_steps.proofs.Machines.Appends.{AppendCame, Waits as AppendWaits, NewerCame as NewerForAppend, PutsAt, LogFull, PutsOn, IsPut as PageIsPut, LostTo, PutTrimmed, JudgesOn, IsOwn, IsAnothers, JudgedTrimmed, append_came, AppendAgain, AsksAgain, Judges, append_again_came}
use Rattle.tg_entry.specs.Records.{linked}
use Rattle.tg_protocol.specs.Pages.{page_of}

drawn_up : (old : List Out) (next : ℕ) (bs : List Out) (end : ℕ) (to : Next CellJob CellEnd) → NextDraws cell_asks old next bs end to → next ≤ end
drawn_up old next bs end (Goes j) d = d.up
drawn_up old next bs end (Learns j) d = d.0
drawn_up old next bs end (Ends e) d = d

-- numbers only grow
pub cell_next : (j : CellJob) (n : ℕ) (x : Reply) (next : ℕ) → next ≤ (cell_feed j n x next).next
cell_next j n x next = drawn_up (cell_asks j) next (cell_feed j n x next).besides (cell_feed j n x next).next (cell_feed j n x next).to (cell_feed_draws j n x next)

not_less : (a b : ℕ) → nat_lt a b ≡ false → b ≤ a
not_less a b e = grind (arith, nat_tests)

not_at_most : (a b : ℕ) → nat_le a b ≡ false → b < a
not_at_most a b e = grind (arith, nat_tests)

-- Of one layout: up to where its sequencer has issued; what lies below its later tails; and of all that it told under a
-- number.
module _ (p : Layout) (reached past : ℕ → Type 0) (told : ℕ → (ℕ → Type 0) → Type 0) where
  -- Syncs, whose tail is to have a property.

  abbrev pub SyncFar : (ℕ → Type 0) → SyncWork → Type 0
  SyncFar G (Checking r) = told r G
  SyncFar G (Settling a j) = (j.place.pos ≡ a.tail - 1) × G a.tail × reached a.tail
  SyncFar G (Probing a j) = G a.tail × past a.tail

  abbrev pub SyncNext : (ℕ → Type 0) → Next Sync Confirmed → Type 0
  SyncNext G (Goes s) = SyncFar G s.work
  SyncNext G (Learns s) = Unit {0}
  SyncNext G (Ends y) = G y.tail × past y.tail

  -- what an awaited answer has to tell for that
  pub record SyncHeard (G : ℕ → Type 0) (s : Sync) (n : ℕ) (x : Reply) (next : ℕ) : Type 0 where
    pub tail : (r t : ℕ) (ls : List StreamLink) → s.work ≡ Checking r → x ≡ IsTail t ls → G t × reached t
    pub gone : (a : Answer) (j : CellJob) (b : ℕ) → s.work ≡ Settling a j → j.place.pos ≡ a.tail - 1 → (cell_feed j n x next).to ≡ Ends (Gone b) → reached a.tail → past a.tail
    pub done : (a : Answer) (j : CellJob) (c : Cell) → s.work ≡ Settling a j → j.place.pos ≡ a.tail - 1 → (cell_feed j n x next).to ≡ Ends (Done c) → reached a.tail → past a.tail

  -- Appends, whose position is to lie at or past a bound.

  module _ (u : ℕ) where
    abbrev pub TokenFar : Option Token → Type 0
    TokenFar o = (t : Token) → o ≡ Some t → u ≤ t.pos

    abbrev pub AppendFar : Option Token → AppendWork → Type 0
    AppendFar o (Asking r) = told r (λ pos. u ≤ pos)
    AppendFar o (Putting j) = (t : Token) → o ≡ Some t → (j.place.pos ≡ t.pos) × reached t.pos
    AppendFar o (Judging j) = (t : Token) → o ≡ Some t → t.pos ≤ p.start

    abbrev pub EndFar : AppendEnd → Type 0
    EndFar (At pos d) = (u ≤ pos) × past pos
    EndFar e = Unit {0}

    abbrev pub AppendNext : Next Append AppendEnd → Type 0
    AppendNext (Goes a) = TokenFar a.token × AppendFar a.token a.work
    AppendNext (Learns a) = TokenFar a.token
    AppendNext (Ends e) = EndFar e

    pub record AppendHeard (a : Append) (n : ℕ) (x : Reply) (next : ℕ) : Type 0 where
      pub issued : (r pos : ℕ) (ls : List StreamLink) → a.work ≡ Asking r → x ≡ IsIssued pos ls → (u ≤ pos) × reached pos
      pub done : (j : CellJob) (c : Cell) → a.work ≡ Putting j → (cell_feed j n x next).to ≡ Ends (Done c) → reached j.place.pos → past j.place.pos

-- Nothing was told yet under a number that isn't drawn.
module _ (p : Layout) (reached past : ℕ → Type 0) (told : ℕ → (ℕ → Type 0) → Type 0) (low : (t : ℕ) → t ≤ p.start → past t) (n0 : ℕ) (new : (r : ℕ) (G : ℕ → Type 0) → n0 ≤ r → told r G) where
  abbrev SyncFar' : (ℕ → Type 0) → SyncWork → Type 0
  SyncFar' G w = SyncFar p reached past told G w

  abbrev SyncNext' : (ℕ → Type 0) → Next Sync Confirmed → Type 0
  SyncNext' G to = SyncNext p reached past told G to

  abbrev TokenFar' : ℕ → Option Token → Type 0
  TokenFar' u o = TokenFar p reached past told u o

  abbrev AppendFar' : ℕ → Option Token → AppendWork → Type 0
  AppendFar' u o w = AppendFar p reached past told u o w

  abbrev AppendNext' : ℕ → Next Append AppendEnd → Type 0
  AppendNext' u to = AppendNext p reached past told u to

  module _ (G : ℕ → Type 0) (s : Sync) (n : ℕ) (x : Reply) (next : ℕ) (h : SyncHeard p reached past told G s n x next) where
    came_far : (w : SyncWork) (to : Next Sync Confirmed) → s.work ≡ w → SyncCame p s n x next w to → SyncFar' G w → SyncNext' G to
    came_far _ _ e (Waits w) k = subst (SyncFar' G) (sym e) k
    came_far _ _ e (NewerCame w) k = tt
    came_far _ _ e (FillsBelow r t ls is names more) k = let i = h.tail r t ls e is in (refl, i.0, i.1)
    came_far _ _ e (ProbesBelow r t ls is names less) k = ((h.tail r t ls e is).0, low t (not_less p.start t less))
    came_far _ _ e (SettlesOn a j i g) k = (subst (turns.Fine j.place.pos) g (cell_fine j n x next) ∙ k.0, k.1, k.2)
    came_far _ _ e (IsSettled a j c g) k = (k.1, h.done a j c e k.0 g k.2)
    came_far _ _ e (ProbesTrimmed a j b g) k = (k.1, h.gone a j b e k.0 g k.2)
    came_far _ _ e (ProbesOn a j i g) k = k
    came_far _ _ e (IsProbed a j g) k = k

    pub sync_far : SyncFar' G s.work → SyncNext' G (sync_feed p s s.work n x next).to
    sync_far f = came_far s.work _ refl (sync_came p s n x next s.work) f

  module _ (u : ℕ) where
    same_token : (t v : Token) → Some t ≡ Some v → t ≡ v
    same_token t v e = cc

    none_token : (v : Token) → None ≡ Some v → ⊥
    none_token v e = cc

    -- what holds of a token, of that which it has
    of_token : (P : Token → Type 0) (t : Token) → P t → (v : Token) → Some t ≡ Some v → P v
    of_token P t k v e = subst P (same_token t v e) k

    -- a token is asked for
    asks_far : (d : Entry) (next : ℕ) → n0 ≤ next → AppendNext' u (Goes (record { draft = d; token = None; work = Asking next }))
    asks_far d next le = (λ t e. absurd (none_token t e), new next (λ pos. u ≤ pos) le)

    module _ (a : Append) (n : ℕ) (x : Reply) (next : ℕ) (le : n0 ≤ next) (h : AppendHeard p reached past told u a n x next) (f : TokenFar' u a.token × AppendFar' u a.token a.work) where
      later : (j : CellJob) → n0 ≤ (cell_feed j n x next).next
      later j = let up = cell_next j n x next in omega (arith, le, up)

      came_past : (w : AppendWork) (to : Next Append AppendEnd) → a.work ≡ w → AppendCame p a n x next w to → AppendFar' u a.token w → AppendNext' u to
      came_past _ _ e (AppendWaits w) k = f
      came_past _ _ e (NewerForAppend w) k = f.0
      came_past _ _ e (PutsAt r pos ls is names) k = let i = h.issued r pos ls e is in (of_token (λ t. u ≤ t.pos) (record { pos = pos; page = page_of (linked a.draft ls) }) i.0, of_token (λ t. (pos ≡ t.pos) × reached t.pos) (record { pos = pos; page = page_of (linked a.draft ls) }) (refl, i.1))
      came_past _ _ e (LogFull r b is) k = tt
      came_past _ _ e (PutsOn j i t has g) k = (of_token (λ v. u ≤ v.pos) t (f.0 t has), of_token (λ v. (i.place.pos ≡ v.pos) × reached v.pos) t (subst (turns.Fine j.place.pos) g (cell_fine j n x next) ∙ (k t has).0, (k t has).1))
      came_past _ _ e (PageIsPut j t c has g) k = (f.0 t has, subst past (k t has).0 (h.done j c e g (subst reached (sym (k t has).0) (k t has).1)))
      came_past _ _ e (LostTo j t c has g) k = asks_far a.draft (cell_feed j n x next).next (later j)
      came_past _ _ e (PutTrimmed j t b has g) k = tt
      came_past _ _ e (JudgesOn j i t has g) k = (of_token (λ v. u ≤ v.pos) t (f.0 t has), of_token (λ v. v.pos ≤ p.start) t (k t has))
      came_past _ _ e (IsOwn j t c has g own) k = (f.0 t has, low t.pos (k t has))
      came_past _ _ e (IsAnothers j t c has g other) k = asks_far a.draft (cell_feed j n x next).next (later j)
      came_past _ _ e (JudgedTrimmed j t b has g) k = tt

      pub append_far : AppendNext' u (append_feed p a a.work n x next).to
      append_far = came_past a.work _ refl (append_came p a n x next a.work) f.1

    -- in a newer layout
    pub again_far : (a : Append) (next : ℕ) → n0 ≤ next → TokenFar' u a.token → AppendNext' u (append_again p a next).to
    again_far a next le f = by _ (append_again_came p a next)
      where
        by : (to : Next Append AppendEnd) → AppendAgain p a next to → AppendNext' u to
        by _ AsksAgain = asks_far a.draft next le
        by _ (Judges t has less) = (of_token (λ v. u ≤ v.pos) t (f t has), of_token (λ v. v.pos ≤ p.start) t (let i = not_at_most p.start t.pos less in omega (arith, i)))
