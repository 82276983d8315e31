-- The positions that a serving sequencer names of a stream fall, are four at most, and aren't far.
use Rattle.std.proofs.Common.{◌≡◌, ℕ, ◌+◌, ◌<◌, ◌≤◌, List, [], ◌∷◌, length, Bool, true, false, refl, sym, subst, arith, Some, None, Option, append-nil}
use Rattle.std.specs.Prelude.{nat_lt, nat_le, not, ◌&&◌, if◌then◌else◌}
use Rattle.std.specs.List.{list_all}
use Rattle.std.proofs.lemmas.Bool.Decides.{nat_tests}
use Rattle.tg_base.specs.Clusters.{Header}
use Rattle.tg_base.specs.Layouts.{Layout}
use Rattle.tg_base.specs.declared.ids.Oid.{Oid}
use Rattle.tg_base.specs.declared.marks.StreamLink.{StreamLink}
use Rattle.tg_base.specs.Orders.{oid_eq}
use Rattle.tg_kind.specs.Meaning.{Meaning}
use Rattle.tg_entry.specs.Records.{is_falling}
use Rattle.tg_protocol.specs.Words.{too_far}
use Rattle.tg_protocol.specs.Entries.{link_of, backs_of}
use Rattle.tg_protocol.specs.Sequencers.{SeqrState, link_or_new, links_of, with_positions}
use Rattle.tg_protocol.specs.Appending.{is_link, names_all}
use Rattle.tg_protocol.specs.Worlds.{seqr, latest, log}
use Rattle.tg_protocol.specs.Runs.{Moves, Goes, Reaches, Later, run}
use Rattle.tg_protocol.specs.Finishing.{IsServing}
use Rattle.tg_law_layouts.specs.Moves.After.{after}
use Rattle.tg_law_layouts.proofs.Moves.Members.{has_contained}
use Rattle.tg_law_layouts.proofs.Layouts.Deciding.{latest_decided}
use Rattle.tg_law_walks.specs.Walks.Streams.{stands_in, AreFalling, IsGood}
use Rattle.tg_law_walks.specs.Walks.Lists.{backs, AreGoodLists, AreOnce}
use Rattle.tg_law_walks.proofs.Walks.Listing.{lists_grow}
use Rattle.tg_law_headline.proofs.Issues.Bounds.{AllBelow, lasts_below}
use Rattle.tg_law_headline.proofs.Issues.Tails.{links_below}
use Rattle.tg_law_walks.specs.Lists.Lists.{Counts}
use Rattle.tg_law_walks.specs.Lists.Spared.{TrimsWereSpare}
use Rattle.tg_law_walks.proofs.Lists.Runs.{lists_are_known}
use Rattle.tg_law_finish.proofs.Finish.Below.{some}

both : (a b : Bool) → a ≡ true → b ≡ true → (a && b) ≡ true
both a b e f = grind arith

same_oid : (a b : Oid) → oid_eq a b ≡ true → a ≡ b
same_oid a b e = grind arith

oid_itself : (o : Oid) → oid_eq o o ≡ true
oid_itself o = grind arith

-- the link that is told of a stream is the stream's
link_oid : (o : Oid) (ls : List StreamLink) → (link_or_new o (link_of o ls)).oid ≡ o
link_oid o [] = refl
link_oid o (l ∷ ls) = by (oid_eq l.oid o) refl (link_oid o ls)
  where
    by : (b : Bool) → oid_eq l.oid o ≡ b → (link_or_new o (link_of o ls)).oid ≡ o → (link_or_new o (if b then Some l else link_of o ls)).oid ≡ o
    by true e rest = same_oid l.oid o e
    by false e rest = rest

link_backs : (o : Oid) (l : Option StreamLink) → (link_or_new o l).backs ≡ backs_of l
link_backs o None = refl
link_backs o (Some l) = refl

is_less : (a b : ℕ) → a < b → nat_lt a b ≡ true
is_less a b less = grind arith

is_within : (a b : ℕ) → a ≤ b → nat_le a b ≡ true
is_within a b le = grind arith

falls : (x : ℕ) (ps : List ℕ) → AreFalling x ps → is_falling ps ≡ true
falls x [] f = refl
falls x (p ∷ []) f = refl
falls x (p ∷ q ∷ qs) f = both (nat_lt q p) (is_falling (q ∷ qs)) (is_less q p f.1.0) (falls p (q ∷ qs) f.1)

nearer : (a b : ℕ) → a ≤ b → too_far b ≡ false → not (too_far a) ≡ true
nearer a b le e = grind (arith, nat_tests, le, e)

all_near : (n x : ℕ) (ps : List ℕ) → too_far n ≡ false → x ≤ n → AreFalling x ps → list_all (λ p. not (too_far p)) ps ≡ true
all_near n x [] near le f = refl
all_near n x (p ∷ ps) near le f = let less = f.0 in both (not (too_far p)) (list_all (λ y. not (too_far y)) ps) (nearer p n (omega (arith, le, less)) near) (all_near n p ps near (omega (arith, le, less)) f.1)

-- lists that keep this
abbrev Kept : ℕ → List StreamLink → Type 0
Kept n ls = (o : Oid) → AreFalling n (backs o ls) × (length (backs o ls) ≤ 4)

link_kept : (n : ℕ) (l : StreamLink) → too_far n ≡ false → AreFalling n l.backs → length l.backs ≤ 4 → is_link l ≡ true
link_kept n l near f few = both (is_falling l.backs && nat_le (length l.backs) 4) (list_all (λ p. not (too_far p)) l.backs) (both (is_falling l.backs) (nat_le (length l.backs) 4) (falls n l.backs f) (is_within (length l.backs) 4 few)) (all_near n n l.backs near (omega arith) f)

links_kept : (n : ℕ) (ls : List StreamLink) (os : List Oid) → too_far n ≡ false → Kept n ls → names_all os (links_of ls os) ≡ true
links_kept n ls [] near k = refl
links_kept n ls (o ∷ os) near k =
    let l = link_or_new o (link_of o ls) in
    let same = link_backs o (link_of o ls) in
    both (oid_eq o l.oid && is_link l) (names_all os (links_of ls os))
    (both (oid_eq o l.oid) (is_link l) (subst (λ (y : Oid). oid_eq o y ≡ true) (sym (link_oid o ls)) (oid_itself o))
    (link_kept n l near (subst (λ ps. AreFalling n ps) (sym same) (k o).0) (subst (λ ps. length ps ≤ 4) (sym same) (k o).1)))
    (links_kept n ls os near k)

module _ (m : Meaning) (h : Header) (zs : Moves m) (r : Reaches m h zs (after m h zs)) where
  abbrev q : Layout
  q = latest m (after m h zs)

  abbrev s : SeqrState
  s = seqr m (after m h zs) (latest m (after m h zs)).seq

  no_more : Goes m (after m h zs) [] (after m h zs)
  unfolding run
  no_more = record { lawful = λ x c. absurd (has_contained [] x c); is = refl; few = r.goes.few }

  abbrev now : Later m (after m h zs) (after m h zs)
  now = ([], no_more)

  -- no later epoch has a layout
  counts : IsServing s q.epoch → Counts m (after m h zs) s.epoch s.next
  counts serves = record {
    some = let e = serves.epoch in let a = some m h zs r in omega (arith, e, a);
    before = λ p d. let e = serves.epoch in let a = (latest_decided m h zs (after m h zs) r).greatest (s.epoch + 1) p d in absurd (omega (arith, e, a));
  }

  not_below : (a b : ℕ) → a ≤ b → nat_lt b a ≡ false
  not_below a b le = grind arith

  pub good_lists : (were : TrimsWereSpare m h zs) → IsServing s q.epoch → AreGoodLists (log m (after m h zs)) s.next s.lists
  good_lists were serves = lists_are_known m h zs (after m h zs) (after m h zs) r now (subst (λ (xs : Moves m). TrimsWereSpare m h xs) (sym (append-nil zs)) were) q.seq (not_below s.proj.start s.next serves.scanned) (counts serves)

  pub named : (were : TrimsWereSpare m h zs) → IsServing s q.epoch → too_far s.next ≡ false → (os : List Oid) → names_all os (links_of s.lists os) ≡ true
  named were serves near os = links_kept s.next s.lists os near (λ o. ((good_lists were serves o).0.falling, (good_lists were serves o).1))

  -- One more position is issued to streams of which none stands twice.

  no_entry : (o : Oid) (q : ℕ) → stands_in [] o q ≡ true → ⊥
  no_entry o q e = absurd cc

  bare : (o : Oid) (x : ℕ) (ps : List ℕ) → IsGood (log m (after m h zs)) o x ps → IsGood [] o x ps
  bare o x ps g = record { falling = g.falling; all = λ q from less e. absurd (no_entry o q e) }

  grown : (were : TrimsWereSpare m h zs) → IsServing s q.epoch → (os : List Oid) → AreOnce os → AreGoodLists [] (s.next + 1) (with_positions s.next os s.lists)
  grown were serves os once = lists_grow [] s.next os s.lists once (λ o e. absurd (no_entry o s.next e)) (λ o. (bare o s.next _ (good_lists were serves o).0, (good_lists were serves o).1))

  pub grown_named : (were : TrimsWereSpare m h zs) → IsServing s q.epoch → (os : List Oid) → AreOnce os → too_far (s.next + 1) ≡ false → (ts : List Oid) → names_all ts (links_of (with_positions s.next os s.lists) ts) ≡ true
  grown_named were serves os once near ts = links_kept (s.next + 1) (with_positions s.next os s.lists) ts near (λ o. ((grown were serves os once o).0.falling, (grown were serves os once o).1))

  falling_below : (x : ℕ) (ps : List ℕ) → AreFalling x ps → AllBelow x ps
  falling_below x [] f = tt
  falling_below x (y ∷ ps) f = (f.0, below_less y x ps f.0 (falling_below y ps f.1))
    where
      below_less : (y x : ℕ) (ps : List ℕ) → y < x → AllBelow y ps → AllBelow x ps
      below_less y x [] less a = tt
      below_less y x (z ∷ ps) less a = let b = a.0 in (omega (arith, less, b), below_less y x ps less a.1)

  pub grown_below : (were : TrimsWereSpare m h zs) → IsServing s q.epoch → (os : List Oid) → AreOnce os → (o : Oid) (ts : List Oid) → AllBelow (s.next + 1) (backs_of (link_of o (links_of (with_positions s.next os s.lists) ts)))
  grown_below were serves os once o ts = lasts_below (s.next + 1) o _ (links_below (s.next + 1) (with_positions s.next os s.lists) ts (λ n. subst (λ ps. AllBelow (s.next + 1) ps) (sym (link_backs n (link_of n (with_positions s.next os s.lists)))) (falling_below (s.next + 1) _ (grown were serves os once n).0.falling)))
