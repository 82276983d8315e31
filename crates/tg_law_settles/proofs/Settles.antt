-- The world of a script's lines before a `settle` line is one of a run, so what is proved of settlings holds of the
-- line.
use Rattle.std.proofs.Common.{◌≡◌, ℕ, zero, suc, ◌+◌, List, [], ◌∷◌, ◌++◌, ◌⊎◌, take, refl, inl, inr, ap, ◌∙◌, sym, subst, arith, Some, None}
use Rattle.std.specs.Prelude.{slice_get}
use Rattle.tg_base.specs.Clusters.{Header}
use Rattle.tg_model.specs.Kinds.{CommandOf}
use Rattle.tg_protocol.specs.Worlds.{start, client, next_event, settle}
use Rattle.tg_protocol.specs.Runs.{Move, Moves, Next, LawfulMove, Reaches, run}
use Rattle.tg_protocol.specs.Finishing.{IsReadyFor, Finishes}
use Rattle.tg_any.specs.AllKinds.{all_kinds}
use Rattle.tg_script.specs.declared.line.Line.{Line}
use Rattle.tg_script.specs.declared.line.Line.TheVariants as line
use Rattle.tg_replay.specs.Runs.{Script, Worlds, Runs, IsScript, MayCome, world_of, front, line_on, lines_on}
use Rattle.tg_replay.proofs.Making.{lines_longer}
use Rattle.tg_law_layouts.proofs.Moves.Lists.{contained}
use Rattle.tg_law_layouts.proofs.Moves.Members.{Has, has_either, has_contained}
use Rattle.tg_law_layouts.proofs.Moves.Scripts.{run_both}
use Rattle.tg_law_programs.proofs.Scripts.Reaching.{each_script_reaches}
use Rattle.tg_law_finish.specs.Finish.Alone.{IsAlone}
use Rattle.tg_law_finish.specs.Finish.Laws.{IsReply}
use Rattle.tg_law_finish.proofs.Finish.Answered.{drains_answer}
use Rattle.tg_law_finish.proofs.Finish.Drains.{drains_come_first, drained_reached}
use Rattle.tg_law_finish.proofs.Finish.Store.{appends_finish, asks_finish_anyway, makes_finish_anyway, rescues_finish, trims_finish, copies_finish, ends_finish, records_finish, commands_finish, calm_commands_finish, long_commands_finish, few_streams_finish}
use Rattle.tg_law_settles.specs.Settles.{IsSettleLine, world_before, world_after, world_drained, Waits, ForAppend, ForAsk, ForMake, ForRescue, ForTrim, ForCopy, ForEnd, ForRecord, ForAny, ForCalm, ForLong, ForFew, SettleLinesFinish, DrainedLinesFinish, DrainedLinesAnswer}

no_item : {X : Type 0} → (x : X) → None ≡ Some x → ⊥
no_item x e = cc

one_item : {X : Type 0} → (x y : X) → Some x ≡ Some y → x ≡ y
one_item x y e = cc

-- an item of the front is one of the whole, and so is what stands before it
of_front : {X : Type 0} → (n k : ℕ) (xs : List X) (x : X) → slice_get (take n xs) k ≡ Some x → (slice_get xs k ≡ Some x) × (take k (take n xs) ≡ take k xs)
of_front zero k xs x e = absurd (no_item x e)
of_front (suc n) k [] x e = absurd (no_item x e)
of_front (suc n) zero (y ∷ xs) x e = (e, refl)
of_front (suc n) (suc k) (y ∷ xs) x e = let f = of_front n k xs x e in (f.0, ap (λ l. y ∷ l) f.1)

-- the lines before line n are a script
front_script : (s : Script) (n : ℕ) → IsScript s → IsScript (front n s)
front_script s n is = record {
  header = is.header;
  each = λ k l e. is.each k l (of_front n k s.events l e).0;
  comes = λ k l e.
      let f = of_front n k s.events l e in
      subst (λ (ls : List Line). MayCome (world_of (record { header = s.header; events = ls })) l) (sym f.1) (is.comes k l f.0);
}

-- Line n is run where no limit has stopped the lines before it.

one_more : {X : Type 0} → (n : ℕ) (xs : List X) (x : X) → slice_get xs n ≡ Some x → take (suc n) xs ≡ take n xs ++ x ∷ []
one_more n [] x e = absurd (no_item x e)
one_more zero (y ∷ xs) x e = ap (λ z. z ∷ []) (one_item y x e)
one_more (suc n) (y ∷ xs) x e = ap (λ l. y ∷ l) (one_more n xs x e)

line_runs : (n : ℕ) (ls : List Line) (w : Worlds) (l : Line) → slice_get ls n ≡ Some l → (lines_on (take n ls) w).stopped ≡ None → (lines_on (take (suc n) ls) w).world ≡ (line_on (lines_on (take n ls) w).world l).world
line_runs n ls w l e none = ap (λ (r : Runs). r.world) (ap (λ (ys : List Line). lines_on ys w) (one_more n ls l e) ∙ lines_longer (take n ls) l w none)

pub settled_after : (s : Script) (n : ℕ) → IsSettleLine s n → world_after s n ≡ (settle all_kinds (world_before s n)).world
settled_after s n is = ap (λ i. world_of (front i s)) (plus n) ∙ line_runs n s.events (start all_kinds s.header) line.Settle is.here is.within
  where
    plus : (n : ℕ) → n + 1 ≡ suc n
    plus n = omega arith

-- A run comes to the world in which the line settles.

counts : (h : Header) (ms : Moves all_kinds) (w : Worlds) → Reaches all_kinds h ms w → Reaches all_kinds h (ms ++ Next ∷ []) (next_event all_kinds w)
unfolding run
counts h ms w r = record {
  header = r.header;
  goes = record {
    lawful = λ x c. by x (has_either ms (Next ∷ []) x (has_contained (ms ++ Next ∷ []) x c));
    is = ap (λ (v : Worlds). next_event all_kinds v) r.goes.is ∙ sym (run_both all_kinds ms (Next ∷ []) (start all_kinds h));
    few = r.goes.few;
  };
}
  where
    by : (x : Move all_kinds) → Has ms x ⊎ Has (Next ∷ []) x → LawfulMove all_kinds (start all_kinds h).cluster x
    by x (inl i) = r.goes.lawful x (contained ms x i)
    by x (inr (inl e)) = subst (λ (y : Move all_kinds). LawfulMove all_kinds (start all_kinds h).cluster y) (sym e) tt
    by x (inr (inr e)) = absurd e

answered : (h : Header) (ms : Moves all_kinds) (w : Worlds) → Reaches all_kinds h ms w → (k : ℕ) (x : CommandOf all_kinds) (most : ℕ) → IsAlone all_kinds w k x → IsReadyFor all_kinds w k → Waits w k x most
    → Finishes all_kinds w (settle all_kinds w).world k most (IsReply all_kinds)
answered h ms w r k x most a b (ForAppend f) = (appends_finish h ms w r k x a b f).0
answered h ms w r k x most a b (ForAsk is f) = (asks_finish_anyway h ms w r k x a b is f).0
answered h ms w r k x most a b (ForMake is f) = (makes_finish_anyway h ms w r k x a b is f).0
answered h ms w r k x most a b (ForRescue is f) = (rescues_finish h ms w r k x a b is f).0
answered h ms w r k x most a b (ForTrim f) = (trims_finish h ms w r k x a b f).0
answered h ms w r k x most a b (ForCopy spare f) = (copies_finish h ms w r k x a b spare f).0
answered h ms w r k x most a b (ForEnd f) = (ends_finish h ms w r k x a b f).0
answered h ms w r k x most a b (ForRecord f) = (records_finish h ms w r k x a b f).0
answered h ms w r k x most a b (ForAny spare such) = commands_finish h ms w r k x a b spare such
answered h ms w r k x most a b (ForCalm spare such calm) = calm_commands_finish h ms w r k x a b spare such calm
answered h ms w r k x most a b (ForLong spare such long) = long_commands_finish h ms w r k x a b spare such long
answered h ms w r k x most a b (ForFew is such f few) = few_streams_finish h ms w r k x a b is such f few

-- a run comes to the world before the line
pub record Comes (s : Script) (n : ℕ) : Type 0 where
  pub moves : Moves all_kinds
  pub reaches : Reaches all_kinds s.header moves (world_before s n)

pub comes : (s : Script) (n : ℕ) → IsSettleLine s n → Comes s n
comes s n is =
    let r = each_script_reaches (front n s) (front_script s n is.script) in
    record { moves = r.moves ++ Next ∷ []; reaches = counts s.header r.moves (world_of (front n s)) r.reaches }

pub settle_lines_finish : SettleLinesFinish
settle_lines_finish s n k most x is a b waits =
    let r = comes s n is in
    subst (λ (v : Worlds). Finishes all_kinds (world_before s n) v k most (IsReply all_kinds)) (sym (settled_after s n is))
    (answered s.header r.moves (world_before s n) r.reaches k x most a b waits)

-- The world after the line is the drained one's settling.

pub drained_after : (s : Script) (n : ℕ) → IsSettleLine s n → world_after s n ≡ (settle all_kinds (world_drained s n)).world
drained_after s n is = settled_after s n is ∙ ap (λ (r : Runs). r.world) (sym (drains_come_first all_kinds (world_before s n)).same)

pub drained_lines_finish : DrainedLinesFinish
drained_lines_finish s n k most x is a b waits =
    let r = comes s n is in
    let d = drained_reached all_kinds s.header r.moves (world_before s n) r.reaches in
    subst (λ (v : Worlds). Finishes all_kinds (world_drained s n) v k most (IsReply all_kinds)) (sym (drained_after s n is))
    (answered s.header d.0 (world_drained s n) d.1 k x most a b waits)

pub drained_lines_answer : DrainedLinesAnswer
drained_lines_answer s n k work is has such none =
    let r = comes s n is in
    let a = drains_answer all_kinds s.header r.moves (world_before s n) r.reaches k work has such none in
    record { reply = a.reply; idle = subst (λ (v : Worlds). (client all_kinds v k).work ≡ None) (sym (settled_after s n is)) a.idle }
