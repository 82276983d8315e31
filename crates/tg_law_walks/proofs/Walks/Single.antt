-- A log with one page.
use Rattle.std.proofs.Common.{◌≡◌, ℕ, zero, suc, ◌<◌, List, [], ◌∷◌, Bool, true, false, refl, sym, ap, ◌∙◌, subst, arith, filter, cond, Option, Some, None}
use Rattle.std.specs.Prelude.{nat_lt, nat_le, ◌&&◌, Contains, if◌then◌else◌}
use Rattle.tg_base.specs.declared.cell.Cell.{Cell}
use Rattle.tg_base.specs.declared.cell.Cell.TheVariants.{Junk, Data}
use Rattle.tg_base.specs.declared.ids.Oid.{Oid}
use Rattle.tg_entry.specs.declared.entry.Entry.{Entry}
use Rattle.tg_protocol.specs.Words.{cell_at, where_true}
use Rattle.tg_protocol.specs.Entries.{lists, backs_in}
use Rattle.tg_protocol.specs.Pages.{entry_of}
use Rattle.tg_protocol.specs.Walking.{pointers_at, listed}
use Rattle.tg_protocol.specs.Logs.{entries_of, members_in, members}
use Rattle.tg_protocol.specs.Views.{entry_if}
use Rattle.tg_law_walks.specs.Walks.Streams.{AreLinked, IsGood}
use Rattle.tg_law_walks.specs.Walks.One.{one_page, OnePageWalks}

none_before : (xs : List ℕ) → filter (λ b. nat_lt b 0) xs ≡ []
none_before [] = refl
none_before (x ∷ xs) = by (nat_lt x 0) (never x) (none_before xs)
  where
    never : (x : ℕ) → nat_lt x 0 ≡ false
    never x = grind arith

    by : (b : Bool) → b ≡ false → filter (λ b. nat_lt b 0) xs ≡ [] → cond b (x ∷ filter (λ b. nat_lt b 0) xs) (filter (λ b. nat_lt b 0) xs) ≡ []
    by true e rest = absurd (cc)
    by false e rest = rest

some_list : (a b : List ℕ) → Some a ≡ Some b → a ≡ b
some_list a b e = cc

by_entry : (o : Oid) (x : Option Entry) (ps : List ℕ) → listed o 0 x ≡ Some ps → ps ≡ []
by_entry o None ps h = absurd (cc)
by_entry o (Some e) ps h = by (lists e o) h
  where
    by : (b : Bool) → where_true b (filter (λ b. nat_lt b 0) (backs_in e o)) ≡ Some ps → ps ≡ []
    by true f = sym (some_list _ ps f) ∙ none_before (backs_in e o)
    by false f = absurd (cc)

no_pointers : (o : Oid) (c : Cell) (ps : List ℕ) → pointers_at o 0 c ≡ Some ps → ps ≡ []
no_pointers o Junk ps h = absurd (cc)
no_pointers o (Data d) ps h = by_entry o (entry_of d) ps h

none_good : (d : List ℕ) (o : Oid) → IsGood (one_page d) o 0 []
none_good d o = record { falling = tt; all = λ q le less s. absurd (omega (arith, less)) }

not_there : (d : List ℕ) (q : ℕ) (c : Cell) → cell_at (one_page d) (suc q) ≡ Some c → ⊥
not_there d q c e = absurd (grind arith)

linked : (d : List ℕ) → AreLinked (one_page d)
linked d o zero c ps e h = subst (λ (zs : List ℕ). IsGood (one_page d) o 0 zs) (sym (no_pointers o c ps h)) (none_good d o)
linked d o (suc q) c ps e h = absurd (not_there d q c e)

first : (q : ℕ) → q < 1 → Contains (0 ∷ []) q
first q less = (0, omega arith, (let e : 0 ≡ q = omega (arith, less) in e))

stands_once : (o : Oid) (d : List ℕ) (e : Entry) → entry_of d ≡ Some e → lists e o ≡ true → members (one_page d) o 0 1 ≡ 0 ∷ []
unfolding members entries_of
stands_once o d e is f =
    ap (λ (x : Option Entry). members_in (entry_if 0 x []) o 0 1) is
    ∙ ap (λ (b : Bool). if (nat_le 0 0 && nat_lt 0 1 && b) then 0 ∷ [] else []) f

pub one_page_walks : OnePageWalks
one_page_walks o d e is f = record {
  by_position = refl;
  linked = linked d;
  good = record { falling = (omega arith, tt); all = λ q le less s. first q less };
  ends = refl;
  stands = stands_once o d e is f;
}
