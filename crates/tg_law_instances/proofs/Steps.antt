-- A step adds replies to those before it, and tests of each client are of each number.
use Rattle.std.proofs.Common.{◌≡◌, ◌⊎◌, ℕ, zero, suc, ◌<◌, ◌≤◌, List, [], ◌∷◌, ◌++◌, length, Bool, true, false, Option, Some, None, refl, sym, ap, ◌∙◌, subst, inl, inr, arith}
use Rattle.std.specs.Prelude.{map, drop, is_some, ◌&&◌, ◌==◌, slice_get, slice_set, slice_index_or}
use Rattle.std.proofs.Math.Seq.{drop-append_seam}
use Rattle.tg_base.specs.declared.ids.NodeId.{NodeId}
use Rattle.tg_base.specs.declared.ids.Role.{Role}
use Rattle.tg_base.specs.declared.ids.Role.TheVariants as role
use Rattle.tg_base.specs.declared.packet.Packet.{Packet}
use Rattle.tg_model.specs.declared.command.Event.TheVariants.{Command as Commands, Deliver, Lose, Tick, Stop}
use Rattle.tg_model.specs.Kinds.{CommandOf, WhatOf}
use Rattle.tg_protocol.specs.Words.{client_id, numbers}
use Rattle.tg_protocol.specs.Clients.{Client, new_client}
use Rattle.tg_protocol.specs.ClientSteps.{client_deliver, client_command, client_tick}
use Rattle.tg_protocol.specs.Worlds.{Told, client, runs, mark_of, moves, comes, handed, delivers, noted_if, commands, ticks, ticks_if, stops_if, effect, happens, unit_moves, layout_moves, seqr_moves, client_turned}
use Rattle.tg_protocol.specs.Playing.{Replies}
use Rattle.tg_law_verdicts.proofs.Members.{Has, has_contained, contained_has, and_both, both_and, found, passes_somewhere, all_pass}
use Rattle.tg_law_verdicts.proofs.Tests.{same_number, number_same}
use Rattle.tg_law_examples.proofs.SevenKinds.{kinds}
use Rattle.tg_law_instances.proofs.Tests.{W, E}
use Rattle.tg_law_instances.proofs.StepTests.{replies, says, each_client}
use Rattle.tg_law_instances.proofs.LogSound.{in_numbers}

-- Replies.

pub record Grows (xs ys : List (Told kinds)) : Type 0 where
  pub added : List (Told kinds)
  pub is : ys ≡ xs ++ added

nothing_after : (xs : List (Told kinds)) → xs ++ [] ≡ xs
nothing_after [] = refl
nothing_after (x ∷ xs) = ap (λ ys. x ∷ ys) (nothing_after xs)

pub none_added : (xs : List (Told kinds)) → Grows xs xs
none_added xs = record { added = []; is = sym (nothing_after xs) }

moves_add : (w : W) (p : Packet) (r : Role) → Grows w.told (moves kinds w p r).told
unfolding unit_moves layout_moves seqr_moves client_turned
moves_add w p role.Unit = none_added w.told
moves_add w p role.Layout = none_added w.told
moves_add w p role.Seqr = none_added w.told
moves_add w p role.Client = record { added = map (mark_of kinds w p.to.num) (client_deliver kinds (client kinds w p.to.num) p.from p.rid p.msg).notes; is = refl }

comes_add : (b : Bool) (w : W) (p : Packet) → Grows w.told (comes kinds b w p).told
comes_add true w p = moves_add w p p.to.role
comes_add false w p = none_added w.told

delivers_add : (w : W) (i : ℕ) (o : Option Packet) → Grows w.told (delivers kinds w i o).told
delivers_add w i None = none_added w.told
delivers_add w i (Some p) = comes_add (runs kinds w p.to) (handed kinds w i) p

noted_told : (b : Bool) (w : W) (n : ℕ) (c : Client kinds) → (noted_if kinds b w n c).told ≡ w.told
noted_told true w n c = refl
noted_told false w n c = refl

commands_add : (b : Bool) (w : W) (n : ℕ) (x : CommandOf kinds) → Grows w.told (commands kinds b w n x).told
unfolding client_turned
commands_add true w n x =
    let before = noted_if kinds (is_some (client kinds w n).work) w n (client kinds w n) in
    let added = map (mark_of kinds before n) (client_command kinds (client kinds w n) x).notes in
    record { added = added; is = ap (λ xs. xs ++ added) (noted_told (is_some (client kinds w n).work) w n (client kinds w n)) }
commands_add false w n x = none_added w.told

ticks_add : (w : W) (n : ℕ) (r : Role) → Grows w.told (ticks kinds w n r).told
unfolding client_turned
ticks_add w n role.Unit = none_added w.told
ticks_add w n role.Layout = none_added w.told
ticks_add w n role.Seqr = none_added w.told
ticks_add w n role.Client = record { added = map (mark_of kinds w n) (client_tick kinds (client kinds w n)).notes; is = refl }

ticks_if_add : (b : Bool) (w : W) (n : NodeId) → Grows w.told (ticks_if kinds b w n).told
ticks_if_add true w n = ticks_add w n.num n.role
ticks_if_add false w n = none_added w.told

stops_add : (b : Bool) (w : W) (n : NodeId) → Grows w.told (stops_if kinds b w n).told
stops_add true w n = none_added w.told
stops_add false w n = none_added w.told

effect_adds : (w : W) (e : E) → Grows w.told (effect kinds w e).told
effect_adds w (Commands k x) = commands_add (runs kinds w (client_id k)) w k x
effect_adds w (Deliver i) = delivers_add w i (slice_get w.packets i)
effect_adds w (Lose i) = none_added w.told
effect_adds w (Tick n) = ticks_if_add (runs kinds w n) w n
effect_adds w (Stop n) = stops_add (runs kinds w n) w n

pub step_adds : (w : W) (e : E) → Grows w.told (happens kinds w e).told
unfolding happens
step_adds w e = let g = effect_adds w e in record { added = g.added; is = g.is }

pub dropped : (xs ys zs : List (Told kinds)) → zs ≡ xs ++ ys → drop (length xs) zs ≡ ys
dropped xs ys zs e = ap (λ (us : List (Told kinds)). drop (length xs) us) e ∙ drop-append_seam xs ys

pub reply_has : (w : W) (e : E) (t : Told kinds) → Replies kinds w e t → Has (replies w (happens kinds w e)) t
reply_has w e t r = subst (λ (ts : List (Told kinds)). Has ts t) (sym (dropped w.told r.replies (happens kinds w e).told r.are)) (has_contained r.replies t r.here)

pub has_reply : (w : W) (e : E) (t : Told kinds) → Has (replies w (happens kinds w e)) t → Replies kinds w e t
has_reply w e t h =
    let g = step_adds w e in
    record { replies = g.added; are = g.is; here = contained_has g.added t (subst (λ (ts : List (Told kinds)). Has ts t) (dropped w.told g.added (happens kinds w e).told g.is) h) }

-- a client says something in a step
pub record Says (w : W) (e : E) (k : ℕ) (f : WhatOf kinds → Bool) : Type 0 where
  pub told : Told kinds
  pub reply : Replies kinds w e told
  pub client : told.mark.client ≡ k
  pub passes : f told.mark.what ≡ true

pub says_it : (w : W) (e : E) (k : ℕ) (f : WhatOf kinds → Bool) → says w (happens kinds w e) k f ≡ true → Says w e k f
says_it w e k f h =
    let x = found (λ (t : Told kinds). (t.mark.client == k) && f t.mark.what) (replies w (happens kinds w e)) h in
    let b = and_both (x.it.mark.client == k) (f x.it.mark.what) x.passes in
    record { told = x.it; reply = has_reply w e x.it x.has; client = same_number x.it.mark.client k b.0; passes = b.1 }

pub it_says : (w : W) (e : E) (k : ℕ) (f : WhatOf kinds → Bool) (t : Told kinds) → Replies kinds w e t → t.mark.client ≡ k → f t.mark.what ≡ true → says w (happens kinds w e) k f ≡ true
it_says w e k f t r c h =
    passes_somewhere (λ (u : Told kinds). (u.mark.client == k) && f u.mark.what) (replies w (happens kinds w e)) t (reply_has w e t r)
    (both_and (t.mark.client == k) (f t.mark.what) (number_same t.mark.client k c) h)

-- Clients.

pub within : (k n : ℕ) → (k < n) ⊎ (n ≤ k)
within k zero = inr (omega arith)
within zero (suc n) = inl (omega arith)
within (suc k) (suc n) = elim (within k n) [ inl a ↦ inl (omega (arith, a)) | inr b ↦ inr (omega (arith, b)) ]

pub past_end : {X : Type 0} → (xs : List X) (k : ℕ) (d : X) → length xs ≤ k → slice_index_or xs k d ≡ d
past_end [] k d le = refl
past_end (x ∷ xs) zero d le = absurd (omega (arith, le))
past_end (x ∷ xs) (suc k) d le = past_end xs k d (omega (arith, le))

pub set_there : {X : Type 0} → (xs : List X) (k : ℕ) (y d : X) → k < length xs → slice_index_or (slice_set xs k y) k d ≡ y
set_there [] k y d less = absurd (omega (arith, less))
set_there (x ∷ xs) zero y d less = refl
set_there (x ∷ xs) (suc k) y d less = set_there xs k y d (omega (arith, less))

-- a client beyond those of the world is a new one
pub new_there : (w : W) (k : ℕ) → length w.clients ≤ k → client kinds w k ≡ new_client kinds w.cluster k
new_there w k le = past_end w.clients k (new_client kinds w.cluster k) le

pub of_client_test : (w : W) (f : ℕ → Bool) (k : ℕ) → each_client w f ≡ true → k < length w.clients → f k ≡ true
of_client_test w f k h less = all_pass f (numbers (length w.clients) 0) h k (in_numbers (length w.clients) 0 k (omega arith) (omega (arith, less)))
