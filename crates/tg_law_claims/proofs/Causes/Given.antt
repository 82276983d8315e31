-- Each refusal of the step that gives a command has its cause there.
use Rattle.std.proofs.Common.{◌≡◌, ◌⊎◌, ℕ, List, [], ◌∷◌, ◌++◌, map, Bool, true, false, refl, sym, ap, ◌∙◌, subst, inl, inr, arith, Option, Some, None, is_some}
use Rattle.std.specs.Prelude.{◌==◌, if◌then◌else◌}
use Rattle.tg_kind.specs.Meaning.{Meaning}
use Rattle.tg_model.specs.declared.command.Event.TheVariants.{Command as Commanding}
use Rattle.tg_model.specs.declared.refusal.Refusal.{Refusal}
use Rattle.tg_model.specs.declared.trace.What.TheVariants as told
use Rattle.tg_model.specs.Kinds.{CommandOf, EventOf, NoteOf, WhatOf}
use Rattle.tg_protocol.specs.Words.{client_id, or_else}
use Rattle.tg_protocol.specs.Clients.{Client, refusal}
use Rattle.tg_protocol.specs.ClientSteps.{client_command, refused_or}
use Rattle.tg_protocol.specs.Worlds.{World, Told, client, runs, mark_of, noted_if, client_turned, commands, counted, happens}
use Rattle.tg_protocol.specs.Playing.{Replies}
use Rattle.tg_protocol.specs.Stuck.{command_in}
use Rattle.tg_protocol.specs.Causes.{DirectoryTrue, CauseAtOnce, HasCause, command_at}
use Rattle.tg_law_layouts.proofs.Moves.Members.{Has, has_contained, has_map}
use Rattle.tg_law_replies.proofs.Books.Worlds.{cancel, nil_right}
use Rattle.tg_law_claims.specs.Causes.Sorts.{RefusedAtOnceTrue}
use Rattle.tg_law_claims.proofs.Causes.Turns.{NotRefused, NoneRefused, Fine, Takes, Silent, Says, accept_takes}
use Rattle.tg_law_claims.proofs.Causes.AtOnce.{Caused, refusal_caused}

module _ (m : Meaning) where
  none_has : (ns : List (NoteOf m)) (y : NoteOf m) (why : Refusal) → NoneRefused m ns → Has ns y → y.what ≡ told.Refused why → ⊥
  none_has [] y why f i is = i
  none_has (n ∷ ns) y why f (inl e) is = subst (NotRefused m) (ap (λ (z : NoteOf m). z.what) (sym e) ∙ is) f.0
  none_has (n ∷ ns) y why f (inr i) is = none_has ns y why f.1 i is

  same_why : (a b : Refusal) → ◌≡◌ {A = WhatOf m} (told.Refused a) (told.Refused b) → a ≡ b
  same_why a b e = cc

  -- a command's step refuses it by the first of its tests that it doesn't pass
  pub given_refusal : (c : Client m) → Fine m c.work → (x : CommandOf m) (y : NoteOf m) (why : Refusal) → Has (client_command m c x).notes y → y.what ≡ told.Refused why → refusal m c x ≡ Some why
  unfolding client_command
  given_refusal c f x y why i is = by (refusal m c x) refl i
    where
      takes : Takes m c (Rattle.tg_protocol.specs.ClientSteps.accepts m c x) → Has (refused_or m c x None).notes y → ⊥
      takes (Silent e k g) i = subst (λ (zs : List (NoteOf m)). Has zs y) e i
      takes (Says n ns e k g) i = none_has (n ∷ ns) y why k (subst (λ (zs : List (NoteOf m)). Has zs y) e i) is

      by : (o : Option Refusal) → refusal m c x ≡ o → Has (refused_or m c x o).notes y → refusal m c x ≡ Some why
      by None e i = absurd (takes (accept_takes m c (refl, refl, refl, refl, f) x) i)
      by (Some other) e (inl z) = e ∙ ap (λ (a : Refusal). Some a) (same_why other why (ap (λ (n : NoteOf m). n.what) (sym z) ∙ is))
      by (Some other) e (inr z) = absurd z

  -- what a command's step tells
  record GivenTold (w : World m) (k : ℕ) (x : CommandOf m) (u : World m) : Type 0 where
    mark : NoteOf m → Told m
    of : (n : NoteOf m) → (mark n).mark.client ≡ k
    what : (n : NoteOf m) → (mark n).mark.what ≡ n.what
    grown : u.told ≡ w.told ++ map mark (client_command m (client m w k) x).notes

  module _ (w : World m) (k : ℕ) (x : CommandOf m) where
    noted_tells : (b : Bool) → GivenTold w k x (client_turned m (noted_if m b w k (client m w k)) k (client_command m (client m w k) x))
    unfolding client_turned
    noted_tells true = record { mark = mark_of m (noted_if m true w k (client m w k)) k; of = λ n. refl; what = λ n. refl; grown = refl }
    noted_tells false = record { mark = mark_of m (noted_if m false w k (client m w k)) k; of = λ n. refl; what = λ n. refl; grown = refl }

    commands_tell : (b : Bool) → GivenTold w k x (counted m (commands m b w k x)) ⊎ ((counted m (commands m b w k x)).told ≡ w.told)
    commands_tell false = inr refl
    commands_tell true = let g = noted_tells (is_some (client m w k).work) in inl (record { mark = g.mark; of = g.of; what = g.what; grown = g.grown })

    given_tells : GivenTold w k x (happens m w (Commanding k x)) ⊎ ((happens m w (Commanding k x)).told ≡ w.told)
    unfolding happens
    given_tells = commands_tell (runs m w (client_id k))

    same_number : (n : ℕ) → (n == n) ≡ true
    same_number n = grind arith

    given_here : (j : ℕ) → j ≡ k → command_at m w (Commanding k x) j ≡ Some x
    given_here j is = subst (λ (i : ℕ). command_at m w (Commanding k x) i ≡ Some x) (sym is)
        (ap (λ (b : Bool). or_else (if b then Some x else None) (command_in m (client m w k).work)) (same_number k))

    module _ (fine : Fine m (client m w k).work) (dir : DirectoryTrue m w) where
      refused_now : (t : Told m) (why : Refusal) → Replies m w (Commanding k x) t → t.mark.what ≡ told.Refused why → HasCause m w (Commanding k x) t why
      refused_now t why r is = by given_tells
        where
          by : GivenTold w k x (happens m w (Commanding k x)) ⊎ ((happens m w (Commanding k x)).told ≡ w.told) → HasCause m w (Commanding k x) t why
          by (inl g) =
              let z = has_map g.mark (client_command m (client m w k) x).notes t
              (subst (λ (ys : List (Told m)). Has ys t) (cancel w.told r.replies (map g.mark (client_command m (client m w k) x).notes) (sym r.are ∙ g.grown)) (has_contained r.replies t r.here)) in
              let own = ap (λ (y : Told m). y.mark.client) z.is ∙ g.of z.of in
              let e = given_refusal (client m w k) fine x z.of why z.has (sym (g.what z.of) ∙ (ap (λ (y : Told m). y.mark.what) (sym z.is) ∙ is)) in
              record {
                command = x;
                answered = given_here t.mark.client own;
                because = inl (subst (λ (j : ℕ). CauseAtOnce m w j x why) (sym own) (subst (Caused m w k (dir k) x) e (refusal_caused m w k (dir k) x)));
              }
          by (inr e) = absurd (subst (λ (ys : List (Told m)). Has ys t) (cancel w.told r.replies [] (sym r.are ∙ (e ∙ sym (nil_right w.told)))) (has_contained r.replies t r.here))

  pub refused_at_once : (w : World m) (e : EventOf m) → ((k : ℕ) → Fine m (client m w k).work) → DirectoryTrue m w → RefusedAtOnceTrue m w e
  refused_at_once w e fine dir k x is t why r says =
      subst (λ (y : EventOf m). Replies m w y t → HasCause m w y t why) (sym is) (λ z. refused_now w k x (fine k) dir t why z says) r
