-- The draft of an append in hand names no stream twice.
use Rattle.std.proofs.Common.{◌≡◌, ℕ, ◌+◌, ◌≤◌, List, [], ◌∷◌, map, refl, sym, subst, inl, inr, arith, Some, Option, append-nil}
use Rattle.tg_base.specs.declared.ids.Oid.{Oid}
use Rattle.tg_base.specs.declared.marks.StreamLink.{StreamLink}
use Rattle.tg_base.specs.Clusters.{Header}
use Rattle.tg_entry.specs.declared.entry.Entry.{Entry}
use Rattle.tg_kind.specs.Meaning.{Meaning}
use Rattle.tg_protocol.specs.Entries.{oid_of_link, streams_of}
use Rattle.tg_protocol.specs.Pages.{page_of}
use Rattle.tg_protocol.specs.Appending.{Append}
use Rattle.tg_protocol.specs.Clients.{Purpose, Appending, Doing, Hand, Work}
use Rattle.tg_protocol.specs.ClientSteps.{task_in}
use Rattle.tg_protocol.specs.Worlds.{client}
use Rattle.tg_protocol.specs.Runs.{Moves, Reaches}
use Rattle.tg_law_layouts.specs.Moves.After.{after}
use Rattle.tg_law_layouts.proofs.Moves.Members.{Has, has_contained}
use Rattle.tg_law_cells.proofs.Tokens.Linked.{read_back}
use Rattle.tg_law_walks.specs.Walks.Lists.{AreOnce}
use Rattle.tg_law_walks.proofs.Drafts.Clients.{State}
use Rattle.tg_law_walks.proofs.Drafts.Ranges.{RiseFrom, entry_streams}
use Rattle.tg_law_walks.proofs.Drafts.Drafting.{Fitting, Whole, Saving}
use Rattle.tg_law_walks.proofs.Drafts.Sound.{DraftOk, TaskOk, HandOk}
use Rattle.tg_law_walks.proofs.Drafts.Written.{state_at}
use Rattle.tg_law_walks.proofs.Once.Reached.{header, give, short}

rise_above : (low : ℕ) (ls : List StreamLink) (o : Oid) → RiseFrom low ls → Has (map oid_of_link ls) o → low ≤ o.0
rise_above low [] o h i = absurd i
rise_above low (l ∷ ls) o h (inl e) = let a = h.0 in let b = first e in omega (arith, a, b)
  where
    first : o ≡ l.oid → o.0 ≡ l.oid.0
    first e = subst (λ (x : Oid). x.0 ≡ l.oid.0) (sym e) refl
rise_above low (l ∷ ls) o h (inr i) = let a = h.0 in let b = rise_above (l.oid.0 + 1) ls o h.2 i in omega (arith, a, b)

rise_once : (low : ℕ) (ls : List StreamLink) → RiseFrom low ls → AreOnce (map oid_of_link ls)
rise_once low [] h = tt
rise_once low (l ∷ ls) h = (λ i. let b = rise_above (l.oid.0 + 1) ls l.oid h.2 (has_contained (map oid_of_link ls) l.oid i) in absurd (omega (arith, b)), rise_once (l.oid.0 + 1) ls h.2)

draft_once : (d : Entry) → Fitting d → AreOnce (streams_of d)
draft_once d (Whole fits) = rise_once 0 d.head.streams (entry_streams (page_of d) d (read_back d (page_of d) fits refl)).rise
draft_once d (Saving saves t) =
    let e : Entry = record { head = d.head; body = t.body } in
    rise_once 0 d.head.streams (entry_streams (page_of e) e (read_back e (page_of e) t.fits refl)).rise

module _ (m : Meaning) (h : Header) (zs : Moves m) (reach : Reaches m h zs (after m h zs)) where
  state : State m h (after m h zs)
  state = state_at m h zs (header m h zs reach) (give m h zs reach) (short m h zs reach) zs [] (sym (append-nil zs))

  pub drafted : (k : ℕ) (v : Work m) (a : Append) (y : Purpose m) → (client m (after m h zs) k).work ≡ Some v → v.hand ≡ Doing (Appending a y) → AreOnce (streams_of a.draft)
  drafted k v a y has at = draft_once a.draft draft.fits
    where
      ok : TaskOk m (client m (after m h zs) k).num (task_in m v.hand)
      ok = (subst (λ (o : Option (Work m)). HandOk m (client m (after m h zs) k).num (client m (after m h zs) k).tx o) has (state.clients.sound k).hand).2

      draft : DraftOk m (client m (after m h zs) k).num a.draft
      draft = subst (λ (d : Hand m). TaskOk m (client m (after m h zs) k).num (task_in m d)) at ok
