-- Of a transaction that is aborted, each read before the one that is told is as it was read.
use Rattle.std.proofs.Common.{◌≡◌, ℕ, ◌+◌, List, [], ◌∷◌, Bool, true, false, refl, sym, ap, ◌∙◌, subst, inl, inr, arith, Option, Some, None}
use Rattle.std.specs.Prelude.{Contains, ◌==◌, nat_lt, if◌then◌else◌}
use Rattle.std.specs.Ordering.{is_lt, ordering_reverse}
use Rattle.std.specs.declared.cmp.Ordering.{Ordering}
use Rattle.std.specs.declared.cmp.Ordering.TheVariants.{Less, Equal, Greater}
use Rattle.tg_base.specs.Parts.{part_cmp}
use Rattle.tg_base.specs.declared.ids.Oid.{Oid}
use Rattle.tg_base.specs.declared.marks.ReadMark.{ReadMark}
use Rattle.tg_entry.specs.declared.entry.Entry.{Entry}
use Rattle.tg_entry.specs.Needs.{reads_of}
use Rattle.tg_kind.specs.Meaning.{Meaning}
use Rattle.tg_model.specs.Kinds.{CommandOf, WhatOf}
use Rattle.tg_model.specs.declared.command.Command.TheVariants as cmd
use Rattle.tg_model.specs.declared.play.PlayEnd.TheVariants.{Played}
use Rattle.tg_model.specs.declared.trace.What.TheVariants as told
use Rattle.tg_protocol.specs.Words.{part_lt}
use Rattle.tg_protocol.specs.Entries.{is_commit}
use Rattle.tg_protocol.specs.Versions.{Changed, first_changed}
use Rattle.tg_protocol.specs.Views.{Entries, Base, View, base_of, unknown_by, unknown_in, changed_in, version_by, version_at}
use Rattle.tg_protocol.specs.Checkpoints.{view_bases}
use Rattle.tg_protocol.specs.Past.{commit_at}
use Rattle.tg_protocol.specs.Transactions.{read_before}
use Rattle.tg_protocol.specs.Clients.{Client, Work}
use Rattle.tg_protocol.specs.Answers.{aborted, play_target, view_or_new}
use Rattle.tg_tx.specs.Pendings.{read_cmp, Above, Rising}
use Rattle.tg_tx.proofs.Orders.{read_total, below_then}
use Rattle.tg_vers.proofs.Order.{part_lt_is}
use Rattle.tg_law_replies.specs.Plays.Sound.{IsRising}
use Rattle.tg_law_replies.specs.History.Logs.{AreListed, version_below}
use Rattle.tg_law_replies.specs.Views.Views.{IsTrueView}
use Rattle.tg_law_replies.specs.Replies.Found.{mine, target}
use Rattle.tg_law_replies.proofs.History.Ledger.{one_entry}
use Rattle.tg_law_replies.proofs.History.Members.{Has, has_contained, contained_has, same_number}
use Rattle.tg_law_replies.proofs.Views.Plays.{plays_true, played_stands, starts_true, changes_true}
use Rattle.tg_law_replies.proofs.Views.Records.{commit_there}
use Rattle.tg_law_replies.proofs.Replies.Ready.{IsReady, IsReadyToPlay, Ready, view_of, played}
use Rattle.tg_law_claims.proofs.Causes.Aborting.{NotAborted, EndOk}

-- The order of reads.

before_is : (a b : ReadMark) → read_before a b ≡ is_lt (read_cmp a b)
before_is a b = below_then (nat_lt a.oid.0 b.oid.0) (a.oid.0 == b.oid.0) (part_lt a.part b.part) (part_cmp a.part b.part) (part_lt_is a.part b.part)

less_is : (o : Ordering) → is_lt o ≡ true → o ≡ Less
less_is Less e = refl
less_is Equal e = absurd cc
less_is Greater e = absurd cc

is_less : (a b : ReadMark) → read_before a b ≡ true → read_cmp a b ≡ Less
is_less a b e = less_is (read_cmp a b) (sym (before_is a b) ∙ e)

above_has : (s r : ReadMark) (rs : List ReadMark) → Above read_cmp s rs → Has rs r → read_cmp s r ≡ Less
above_has s r [] h i = absurd i
above_has s r (t ∷ rs) h (inl e) = subst (λ (x : ReadMark). read_cmp s x ≡ Less) (sym e) h.0
above_has s r (t ∷ rs) h (inr i) = above_has s r rs h.1 i

-- a read before the first that has changed is as it was read
skipped : (f : ReadMark → ℕ) (rs : List ReadMark) (x : Changed) → Rising read_cmp rs → first_changed f rs ≡ Some x → (r : ReadMark) → Has rs r → read_before r x.read ≡ true → f r ≡ r.version
skipped f [] x h is r i less = absurd i
skipped f (s ∷ rs) x h is r i less = by (f s == s.version) refl is i (λ found j. skipped f rs x h.1 found r j less)
  where
    one : (y z : Changed) → Some y ≡ Some z → y ≡ z
    one y z e = cc

    never : read_cmp s s ≡ Less → ⊥
    never e = absurd (no (sym e ∙ (read_total.antisymm s s ∙ ap ordering_reverse e)))
      where
        no : Less ≡ Greater → ⊥
        no z = cc

    by : (b : Bool) → (f s == s.version) ≡ b → (if b then first_changed f rs else Some (record { read = s; now = f s })) ≡ Some x → Has (s ∷ rs) r → (first_changed f rs ≡ Some x → Has rs r → f r ≡ r.version) → f r ≡ r.version
    by true e is (inl same) rest = subst (λ (y : ReadMark). f y ≡ y.version) (sym same) (same_number (f s) s.version e)
    by true e is (inr j) rest = rest is j
    by false e is (inl same) rest =
        absurd (never (is_less s s (subst (λ (y : ReadMark). read_before y s ≡ true) same (subst (λ (y : Changed). read_before r y.read ≡ true) (sym (one (record { read = s; now = f s }) x is)) less))))
    by false e is (inr j) rest =
        absurd (never (read_total.trans s r s (above_has s r rs h.0 j) (is_less r s (subst (λ (y : Changed). read_before r y.read ≡ true) (sym (one (record { read = s; now = f s }) x is)) less))))

module _ (m : Meaning) (objects : List Oid) (es : Entries) where
  abbrev pub SaysLeast : WhatOf m → Type 0
  SaysLeast (told.Aborted p o k seen now) = (e : Entry) (r : ReadMark) → Contains es (p, e) → Rising read_cmp (reads_of e) → Contains (reads_of e) r →
      read_before r (record { oid = o; part = k; version = seen }) ≡ true →
      version_below m objects es p r.oid r.part ≡ r.version
  SaysLeast what = Unit {0}

  pub plain_least : (what : WhatOf m) → NotAborted m what → SaysLeast what
  plain_least (told.Aborted p o k seen now) h = absurd h
  plain_least what h = tt

  abbrev pub TrueViewed : Option (View m) → Type 0
  TrueViewed o = (v : View m) → o ≡ Some v → IsTrueView m objects es v

  pub none_viewed : TrueViewed None
  none_viewed v e = absurd (no v e)
    where
      no : (v : View m) → None ≡ Some v → ⊥
      no v e = cc

  known_each : (v : View m) (p : ℕ) (rs : List ReadMark) → unknown_in m v rs p ≡ None → (r : ReadMark) → Has rs r → unknown_by m p (base_of m v r.oid) r ≡ false
  unfolding unknown_in
  known_each v p [] none r i = absurd i
  known_each v p (s ∷ rs) none r i = by (unknown_by m p (base_of m v s.oid) s) refl none i (λ z j. known_each v p rs z r j)
    where
      by : (b : Bool) → unknown_by m p (base_of m v s.oid) s ≡ b → (if b then Some s.oid else unknown_in m v rs p) ≡ None → Has (s ∷ rs) r → (unknown_in m v rs p ≡ None → Has rs r → unknown_by m p (base_of m v r.oid) r ≡ false)
          → unknown_by m p (base_of m v r.oid) r ≡ false
      by true e none i rest = absurd (no none)
        where
          no : Some s.oid ≡ None → ⊥
          no z = cc
      by false e none (inl same) rest = subst (λ (y : ReadMark). unknown_by m p (base_of m v y.oid) y ≡ false) (sym same) e
      by false e none (inr j) rest = rest none j

  module _ (rising : IsRising es) where
    -- neither depends on the version that was read
    abbrev with_version : ReadMark → ℕ → ReadMark
    with_version r n = record { oid = r.oid; part = r.part; version = n }

    other_unknown : (p : ℕ) (b : Option (Base m)) (r : ReadMark) (n : ℕ) → unknown_by m p b (with_version r n) ≡ unknown_by m p b r
    other_unknown p None r n = refl
    other_unknown p (Some b) r n = refl

    other_version : (v : View m) (p : ℕ) (b : Option (Base m)) (r : ReadMark) (n : ℕ) → version_by m v p b (with_version r n) ≡ version_by m v p b r
    other_version v p None r n = refl
    other_version v p (Some b) r n = refl

    abbrev its : View m → ℕ → ReadMark → ℕ → Changed
    its v p r n = record { read = with_version r n; now = version_at m v p (with_version r n) }

    differing : (x : Changed) (b : Bool) → b ≡ false → (if b then None else Some x) ≡ Some x
    differing x true e = absurd cc
    differing x false e = refl

    differs : (n k : ℕ) → n ≡ k → (n == (k + 1)) ≡ false
    differs n k e = grind arith

    found_so : (v : View m) (p : ℕ) (r : ReadMark) (n : ℕ) → (version_at m v p (with_version r n) == n) ≡ false → changed_in m v (with_version r n ∷ []) p ≡ Some (its v p r n)
    unfolding changed_in
    found_so v p r n e = differing (its v p r n) (version_at m v p (with_version r n) == n) e

    unknown_so : (v : View m) (p : ℕ) (r : ReadMark) (n : ℕ) → unknown_by m p (base_of m v r.oid) r ≡ false → unknown_in m v (with_version r n ∷ []) p ≡ None
    unfolding unknown_in
    unknown_so v p r n known = ap (λ (b : Bool). if b then Some r.oid else None) (other_unknown p (base_of m v r.oid) r n ∙ known)

    -- what a true view has as the version of a read that it knows
    view_is : (v : View m) (p : ℕ) (r : ReadMark) → IsTrueView m objects es v → v.upto ≡ p → unknown_by m p (base_of m v r.oid) r ≡ false → version_at m v p r ≡ version_below m objects es p r.oid r.part
    view_is v p r so at known =
        let n = version_at m v p r in
        let same = other_version v p (base_of m v r.oid) r (n + 1) in
        sym same ∙ (changes_true m objects es v p (with_version r (n + 1) ∷ []) (its v p r (n + 1)) rising so (λ i j b l le. at) (unknown_so v p r (n + 1) known)
        (found_so v p r (n + 1) (differs (version_at m v p (with_version r (n + 1))) n same))).now

    module _ (listed : AreListed es) (c : Client m) (w : Work m) (viewed : TrueViewed c.view) (is_end : w.command ≡ cmd.End) (r : IsReadyToPlay m objects es c w) where
      begins : IsTrueView m objects es (view_of m objects es c w)
      begins = by c.view refl
        where
          by : (o : Option (View m)) → c.view ≡ o → IsTrueView m objects es (view_or_new m c w (mine m c w) o)
          by None is = starts_true m objects es (view_bases m (mine m c w) w.trims c.objects c.hosted) rising (r.bases is)
          by (Some v) is = viewed v is

      so : IsTrueView m objects es (played m objects es c w).view
      so = plays_true m objects es (mine m c w) (view_of m objects es c w) (target m w) rising listed r.decisions r.entries begins

      least : (t : ℕ) (e : Entry) (x : Changed) → (played m objects es c w).came ≡ Played t → commit_at (mine m c w) w.at ≡ Some e → unknown_in m (played m objects es c w).view (reads_of e) w.at ≡ None
          → changed_in m (played m objects es c w).view (reads_of e) w.at ≡ Some x → SaysLeast (aborted m w.at x)
      unfolding changed_in
      least t e x came is known changed d q there order reads less =
          sym (view_is v w.at q so stands (known_each v w.at (reads_of e) known q here)) ∙ skipped (version_at m v w.at) (reads_of e) x (subst (λ (y : Entry). Rising read_cmp (reads_of y)) same order) changed q here (same_before less)
        where
          v : View m
          v = (played m objects es c w).view

          stands : v.upto ≡ w.at
          stands = played_stands m (mine m c w) (target m w) t (view_of m objects es c w) r.low came ∙ ap (λ (y : CommandOf m). play_target m w y) is_end

          commit : Has (mine m c w) (w.at, e) × (is_commit e ≡ true)
          commit = commit_there m (mine m c w) w.at e is

          entry : Contains es (w.at, e)
          entry = r.entries.only w.at e (contained_has (mine m c w) (w.at, e) commit.0)

          same : d ≡ e
          same = one_entry 0 es w.at d e rising (has_contained es (w.at, d) there) (has_contained es (w.at, e) entry)

          here : Has (reads_of e) q
          here = has_contained (reads_of e) q (subst (λ (y : Entry). Contains (reads_of y) q) same reads)

          same_before : read_before q (record { oid = x.read.oid; part = x.read.part; version = x.read.version }) ≡ true → read_before q x.read ≡ true
          same_before l = l

    pub least_end : (listed : AreListed es) → (c : Client m) (w : Work m) → TrueViewed c.view → w.command ≡ cmd.End → Ready m objects es c w → EndOk m objects es SaysLeast plain_least TrueViewed none_viewed c w (mine m c w) (played m objects es c w)
    least_end listed c w viewed is ready = least listed c w viewed is (subst (λ (x : CommandOf m). IsReady m objects es c w x) is ready)
