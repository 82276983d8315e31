-- An append puts its page at the position that was issued to it, in the epoch in which it asked.
use Rattle.std.proofs.Common.{◌≡◌, ℕ, List, sym, subst, inl, inr}
use Rattle.tg_base.specs.Layouts.{Layout}
use Rattle.tg_base.specs.declared.marks.StreamLink.{StreamLink}
use Rattle.tg_protocol.specs.Requests.{Next, Goes, Learns, Ends}
use Rattle.tg_protocol.specs.Replies.{Reply, IsIssued}
use Rattle.tg_protocol.specs.Cells.{Place}
use Rattle.tg_protocol.specs.Appending.{AppendWork, Asking, Putting, Append, AppendEnd, AppendTurn, append_feed, append_again}
use Rattle.tg_law_steps.proofs.Machines.Appends as appends
use Rattle.tg_law_walks.proofs.Drafts.Became.{NextIs}
use Rattle.tg_law_walks.proofs.Drafts.Cells.{NextPuts, cell_puts}

-- what is to hold of the epoch and the position
module _ (T : ℕ → ℕ → Type 0) where
  abbrev pub PutsNew : AppendWork → Type 0
  PutsNew (Putting j) = T j.place.epoch j.place.pos
  PutsNew w = Unit {0}

  abbrev NextNew : Next Append AppendEnd → Type 0
  NextNew (Goes b) = PutsNew b.work
  NextNew (Learns b) = PutsNew b.work
  NextNew (Ends e) = Unit {0}

  pub next_new : (b : Append) (n : Next Append AppendEnd) → NextIs b n → NextNew n → PutsNew b.work
  next_new b n (inl e) h = subst NextNew e h
  next_new b n (inr e) h = subst NextNew e h

  -- what an answer has to tell that issues a position
  abbrev pub Issues : Layout → AppendWork → Reply → Type 0
  Issues p (Asking r) x = (pos : ℕ) (ls : List StreamLink) → x ≡ IsIssued pos ls → T p.epoch pos
  Issues p w x = Unit {0}

  turn_new : (p : Layout) (n : ℕ) (x : Reply) (next : ℕ) (a : Append) (t : AppendTurn) → appends.Fed p n x next a t → PutsNew a.work → Issues p a.work x → NextNew t.to
  turn_new p n x next _ _ (appends.Issues d o r pos ls is names) h f = f pos ls is
  turn_new p n x next _ _ (appends.PutGoes d t j i e) h f = subst (λ (q : Place). T q.epoch q.pos) (sym (subst (NextPuts j) e (cell_puts j n x next)).0) h
  turn_new p n x next _ _ (appends.PutDone d t j c e) h f = tt
  turn_new p n x next _ _ (appends.PutLost d t j c e) h f = tt
  turn_new p n x next _ _ (appends.PutGone d t j b e) h f = tt
  turn_new p n x next _ _ came h f = h

  pub feed_new : (p : Layout) (a : Append) (n : ℕ) (x : Reply) (next : ℕ) → PutsNew a.work → Issues p a.work x → NextNew (append_feed p a a.work n x next).to
  feed_new p a n x next h f = turn_new p n x next a _ (appends.append_fed p n x next a) h f

  again_turn : (p : Layout) (next : ℕ) (a : Append) (t : AppendTurn) → appends.Anew p next a t → NextNew t.to
  again_turn p next _ _ (appends.HasNone d w) = tt
  again_turn p next _ _ came = tt

  pub again_new : (p : Layout) (a : Append) (next : ℕ) → NextNew (append_again p a next).to
  again_new p a next = again_turn p next a _ (appends.append_anew p next a)
