-- The judge goes from line to line, and finds no fault where no line has one.
use Rattle.std.proofs.Common.{◌≡◌, ℕ, List, [], ◌∷◌, ◌++◌, Bool, true, false, refl, sym, subst, inl, inr}
use Rattle.std.specs.Prelude.{Option, Some, None, ◌+◌}
use Rattle.tg_base.specs.declared.fault.Clause.{Clause}
use Rattle.tg_base.specs.declared.ids.Oid.{Oid}
use Rattle.tg_kind.specs.Meaning.{Meaning}
use Rattle.tg_model.specs.Kinds.{MarkOf, DoneOf}
use Rattle.tg_model.specs.Stores.{History}
use Rattle.tg_model.specs.Traces.{Trace}
use Rattle.tg_model.specs.Verdicts.{Sameness, Fault, first_failed, reply_fault, entry_fault, fault_or, entries_fault, replies_fault, fault}
use Rattle.tg_law_verdicts.proofs.Members.{Has}

-- of tests of which none fails, the first passes, and none of the others fails
pub first_fine : (c : Clause) (b : Bool) (xs : List (Clause × Bool)) → first_failed ((c, b) ∷ xs) ≡ None → (b ≡ true) × (first_failed xs ≡ None)
first_fine c true xs e = (refl, e)
first_fine c false xs e = absurd cc

pub fine_first : (c : Clause) (b : Bool) (xs : List (Clause × Bool)) → b ≡ true → first_failed xs ≡ None → first_failed ((c, b) ∷ xs) ≡ None
fine_first c true xs e f = f
fine_first c false xs e f = absurd cc

module _ (m : Meaning) (same : Sameness m) (objects : List Oid) (h : History m) (trace : Trace m) where
  -- no reply has a fault
  abbrev pub Replies : Trace m → Trace m → Type 0
  Replies earlier [] = Unit {0}
  Replies earlier (t ∷ ts) = (reply_fault m same objects h trace earlier t ≡ None) × Replies (earlier ++ t ∷ []) ts

  -- no entry has a fault
  abbrev pub Entries : History m → History m → Type 0
  Entries earlier [] = Unit {0}
  Entries earlier (d ∷ ds) = (entry_fault m same objects h trace earlier d ≡ None) × Entries (earlier ++ d ∷ []) ds

  none_or : (line : ℕ) (c : Option Clause) (rest : Option Fault) → fault_or m same objects h trace line c rest ≡ None → (c ≡ None) × (rest ≡ None)
  none_or line None rest e = (refl, e)
  none_or line (Some c) rest e = absurd cc

  or_none : (line : ℕ) (c : Option Clause) (rest : Option Fault) → c ≡ None → rest ≡ None → fault_or m same objects h trace line c rest ≡ None
  or_none line None rest e f = f
  or_none line (Some c) rest e f = absurd cc

  pub entries_found : (line : ℕ) (earlier ds : History m) → entries_fault m same objects h trace line earlier ds ≡ None → Entries earlier ds
  unfolding entries_fault
  entries_found line earlier [] e = tt
  entries_found line earlier (d ∷ ds) e =
      let p = none_or line (entry_fault m same objects h trace earlier d) (entries_fault m same objects h trace (line + 1) (earlier ++ d ∷ []) ds) e in
      (p.0, entries_found (line + 1) (earlier ++ d ∷ []) ds p.1)

  pub entries_none : (line : ℕ) (earlier ds : History m) → Entries earlier ds → entries_fault m same objects h trace line earlier ds ≡ None
  unfolding entries_fault
  entries_none line earlier [] e = refl
  entries_none line earlier (d ∷ ds) e =
      or_none line (entry_fault m same objects h trace earlier d) (entries_fault m same objects h trace (line + 1) (earlier ++ d ∷ []) ds) e.0 (entries_none (line + 1) (earlier ++ d ∷ []) ds e.1)

  -- no line has a fault
  pub record Fine : Type 0 where
    pub replies : Replies [] trace
    pub entries : Entries [] h

  pub record FineFrom (earlier ts : Trace m) : Type 0 where
    pub replies : Replies earlier ts
    pub entries : Entries [] h

  pub replies_found : (line : ℕ) (earlier ts : Trace m) → replies_fault m same objects h trace line earlier ts ≡ None → FineFrom earlier ts
  unfolding replies_fault
  replies_found line earlier [] e = record { replies = tt; entries = entries_found (line + 1) [] h e }
  replies_found line earlier (t ∷ ts) e =
      let p = none_or line (reply_fault m same objects h trace earlier t) (replies_fault m same objects h trace (line + 1) (earlier ++ t ∷ []) ts) e in
      let rest = replies_found (line + 1) (earlier ++ t ∷ []) ts p.1 in
      record { replies = (p.0, rest.replies); entries = rest.entries }

  pub replies_none : (line : ℕ) (earlier ts : Trace m) → Replies earlier ts → Entries [] h → replies_fault m same objects h trace line earlier ts ≡ None
  unfolding replies_fault
  replies_none line earlier [] r e = entries_none (line + 1) [] h e
  replies_none line earlier (t ∷ ts) r e =
      or_none line (reply_fault m same objects h trace earlier t) (replies_fault m same objects h trace (line + 1) (earlier ++ t ∷ []) ts) r.0 (replies_none (line + 1) (earlier ++ t ∷ []) ts r.1 e)

  pub fine_of : fault m same objects h trace ≡ None → Fine
  unfolding fault
  fine_of e = let f = replies_found 2 [] trace e in record { replies = f.replies; entries = f.entries }

  pub of_fine : Fine → fault m same objects h trace ≡ None
  unfolding fault
  of_fine f = replies_none 2 [] trace f.replies f.entries

  -- a reply, and an entry, without a fault

  pub record FineReply (t : MarkOf m) : Type 0 where
    pub before : Trace m
    pub fine : reply_fault m same objects h trace before t ≡ None

  pub reply_at : (earlier ts : Trace m) (t : MarkOf m) → Replies earlier ts → Has ts t → FineReply t
  reply_at earlier [] t r i = absurd i
  reply_at earlier (u ∷ ts) t r (inl e) = record { before = earlier; fine = subst (λ (y : MarkOf m). reply_fault m same objects h trace earlier y ≡ None) (sym e) r.0 }
  reply_at earlier (u ∷ ts) t r (inr i) = reply_at (earlier ++ u ∷ []) ts t r.1 i

  pub record FineEntry (d : DoneOf m) : Type 0 where
    pub before : History m
    pub fine : entry_fault m same objects h trace before d ≡ None

  pub entry_at : (earlier ds : History m) (d : DoneOf m) → Entries earlier ds → Has ds d → FineEntry d
  entry_at earlier [] d r i = absurd i
  entry_at earlier (u ∷ ds) d r (inl e) = record { before = earlier; fine = subst (λ (y : DoneOf m). entry_fault m same objects h trace earlier y ≡ None) (sym e) r.0 }
  entry_at earlier (u ∷ ds) d r (inr i) = entry_at (earlier ++ u ∷ []) ds d r.1 i
