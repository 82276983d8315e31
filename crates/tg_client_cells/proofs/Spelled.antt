-- Entries that have a spelling.
use Rattle.std.proofs.Common.{◌≡◌, ℕ, Bool, true, false, ◌&&◌, [], ◌∷◌, ◌++◌, Option, Some, None, refl, sym, subst}
use Rattle.std.specs.List.{list_all}
use Rattle.std.proofs.lemmas.Bool.{true≢false}
use Rattle.tg_entry.specs.declared.entry.Entry.{Entry}
use Rattle.tg_entry.specs.Format.{entry}
use Rattle.tg_protocol.specs.Views.{Entries, entry_if}
use Rattle.tg_stream.specs.Pages.{fits_by}
use Rattle.tg_client_cells.specs.Words.{AreSpelled}

abbrev placed-fits : ℕ × Entry → Bool
placed-fits x = entry.fits x.1

head-of : (b c : Bool) → (b && c) ≡ true → b ≡ true
head-of true c h = refl
head-of false c h = absurd (true≢false (sym h))

rest-of : (b c : Bool) → (b && c) ≡ true → c ≡ true
rest-of true c h = h
rest-of false c h = absurd (true≢false (sym h))

both-of : (b c : Bool) → b ≡ true → c ≡ true → (b && c) ≡ true
both-of true c h k = k
both-of false c h k = absurd (true≢false (sym h))

last-spelled : (es : Entries) (p : ℕ) (x : Option Entry) → AreSpelled es → fits_by x ≡ true → AreSpelled (es ++ entry_if p x [])
last-spelled [] p None h f = refl
last-spelled [] p (Some e) h f = both-of (entry.fits e) true f refl
last-spelled (x ∷ es) p y h f = both-of (placed-fits x) (list_all placed-fits (es ++ entry_if p y [])) (head-of (placed-fits x) (list_all placed-fits es) h) (last-spelled es p y (rest-of (placed-fits x) (list_all placed-fits es) h) f)

pub none_spelled : (es : Entries) → es ≡ [] → AreSpelled es
none_spelled es e = subst (λ (xs : Entries). AreSpelled xs) (sym e) refl

pub next_spelled : (old new : Entries) (x : Option Entry) (p : ℕ) → new ≡ old ++ entry_if p x [] → AreSpelled old → fits_by x ≡ true → AreSpelled new
next_spelled old new x p e h f = subst (λ (xs : Entries). AreSpelled xs) (sym e) (last-spelled old p x h f)
