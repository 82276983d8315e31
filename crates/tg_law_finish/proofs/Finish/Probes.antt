-- Units that are asked at once, each once.
use Rattle.std.proofs.Common.{◌≡◌, ℕ, suc, ◌+◌, ◌<◌, ◌≤◌, List, [], ◌∷◌, length, filter, cond, Bool, true, false, refl, ap, subst, arith, eqb}
use Rattle.std.specs.Prelude.{slice_index, ⊤}
use Rattle.tg_protocol.specs.Requests.{Waits, waits_for, without_wait}
use Rattle.tg_protocol.specs.Cells.{Place, CellWork, Probes}
use Rattle.tg_law_finish.proofs.Finish.Askers.{Distinct}
use Rattle.tg_law_finish.proofs.Finish.Lists.{Each, each_filter}

-- no unit is asked twice
abbrev pub AskedOnce : Waits → Type 0
AskedOnce [] = ⊤
AskedOnce (w ∷ ws) = Each (λ (v : ℕ × ℕ). eqb v.0 w.0 ≡ false) ws × AskedOnce ws

pub each_at : (P : ℕ → Type 0) (xs : List ℕ) → ((j : ℕ) → j < length xs → P (slice_index xs j)) → Each P xs
each_at P [] f = tt
each_at P (x ∷ xs) f = (f 0 (omega arith), each_at P xs (λ j less. f (suc j) (omega (arith, less))))

pub each_waits : (P : ℕ → Type 0) (us : List ℕ) (rid : ℕ) → Each P us → Each (λ (w : ℕ × ℕ). P w.0) (waits_for us rid)
each_waits P [] rid a = tt
each_waits P (u ∷ us) rid a = (a.0, each_waits P us (rid + 1) a.1)

pub all_once : (us : List ℕ) (rid : ℕ) → Distinct us → AskedOnce (waits_for us rid)
all_once [] rid d = tt
all_once (u ∷ us) rid d = (each_waits (λ y. eqb y u ≡ false) us (rid + 1) d.0, all_once us (rid + 1) d.1)

pub waits_some : (us : List ℕ) (rid : ℕ) → 0 < length us → waits_for us rid ≡ [] → ⊥
waits_some [] rid less e = absurd (omega (arith, less))
waits_some (u ∷ us) rid less e = absurd cc

pub waits_long : (us : List ℕ) (rid : ℕ) → length (waits_for us rid) ≡ length us
waits_long [] rid = refl
waits_long (u ∷ us) rid = ap suc (waits_long us (rid + 1))

-- Some have answered.

once_filter : (f : ℕ × ℕ → Bool) (ws : Waits) → AskedOnce ws → AskedOnce (filter f ws)
once_filter f [] a = tt
once_filter f (w ∷ ws) a = by (f w) (each_filter _ f ws a.0) (once_filter f ws a.1)
  where
    by : (b : Bool) → Each (λ (v : ℕ × ℕ). eqb v.0 w.0 ≡ false) (filter f ws) → AskedOnce (filter f ws) → AskedOnce (cond b (w ∷ filter f ws) (filter f ws))
    by true x y = (x, y)
    by false x y = y

filter_short : (f : ℕ × ℕ → Bool) (ws : Waits) → length (filter f ws) ≤ length ws
filter_short f [] = omega arith
filter_short f (w ∷ ws) = by (f w) (filter_short f ws)
  where
    by : (b : Bool) → length (filter f ws) ≤ length ws → length (cond b (w ∷ filter f ws) (filter f ws)) ≤ suc (length ws)
    by true le = omega (arith, le)
    by false le = omega (arith, le)

-- a unit stands among these
abbrev pub StandsIn : List ℕ → ℕ → Type 0
StandsIn us u = (j : ℕ) × (j < length us) × (slice_index us j ≡ u)

-- These are waited for where so many units are asked at once: some of them, and none twice, unless it stands there twice.
pub record Asked (us : List ℕ) (ws : Waits) : Type 0 where
  pub some : 0 < length us → ws ≡ [] → ⊥
  pub units : Each (λ (w : ℕ × ℕ). StandsIn us w.0) ws
  pub once : Distinct us → AskedOnce ws
  pub short : length ws ≤ length us

pub asks_all : (us : List ℕ) (rid : ℕ) → Asked us (waits_for us rid)
asks_all us rid = record {
  some = λ less e. waits_some us rid less e;
  units = each_waits (StandsIn us) us rid (each_at (StandsIn us) us (λ j less. (j, less, refl)));
  once = λ d. all_once us rid d;
  short = let e = waits_long us rid in omega (arith, e);
}

pub asks_rest : (us : List ℕ) (ws : Waits) (u : ℕ) (v : ℕ × ℕ) (vs : Waits) → without_wait u ws ≡ v ∷ vs → Asked us ws → Asked us (v ∷ vs)
asks_rest us ws u v vs e k = record {
  some = λ less f. absurd cc;
  units = subst (λ (ys : Waits). Each (λ (w : ℕ × ℕ). StandsIn us w.0) ys) e (each_filter _ _ ws k.units);
  once = λ d. subst AskedOnce e (once_filter _ ws (k.once d));
  short = let x = k.short in let y = subst (λ (ys : Waits). length ys ≤ length ws) e (filter_short _ ws) in omega (arith, x, y);
}

-- what is asked of a chain that is probed
abbrev pub ProbeShape : Place → CellWork → Type 0
ProbeShape a (Probes ws) = Asked a.chain ws
ProbeShape a w = ⊥
