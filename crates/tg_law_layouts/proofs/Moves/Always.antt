-- From each list of moves to the worlds that lawful runs come to.
use Rattle.std.proofs.Common.{◌≡◌, [], ◌∷◌, ◌++◌, ap, ◌∙◌, sym, subst, refl, inl, inr}
use Rattle.std.specs.Prelude.{Contains}
use Rattle.tg_base.specs.Clusters.{Header, IsHeader}
use Rattle.tg_kind.specs.Meaning.{Meaning}
use Rattle.tg_model.specs.declared.command.Event.TheVariants.{Command as Commands, Deliver, Lose, Tick, Stop}
use Rattle.tg_model.specs.Kinds.{EventOf}
use Rattle.tg_protocol.specs.Worlds.{World, start}
use Rattle.tg_protocol.specs.Runs.{Move, Moves, Next, Takes, run, Always, EachLater, LawfulCommand, LawfulEvent, LawfulMove}
use Rattle.tg_law_layouts.specs.Moves.After.{after}
use Rattle.tg_law_layouts.proofs.Moves.Members.{Has}
use Rattle.tg_law_layouts.proofs.Moves.Lists.{contained}
use Rattle.tg_law_layouts.proofs.Moves.Moves.{Gives, AllGive}
use Rattle.tg_law_layouts.proofs.Moves.Scripts.{run_both}

module _ (m : Meaning) where
  pub always : (P : World m → Type 0) → ((h : Header) (ms : Moves m) → P (after m h ms)) → Always m P
  always P f h ms w r = subst P (sym r.goes.is) (f h ms)

  -- a later world is one after more moves
  later_is : (h : Header) (xs ys : Moves m) (w v : World m) → w ≡ after m h xs → v ≡ run m ys w → after m h (xs ++ ys) ≡ v
  later_is h xs ys w v a b = run_both m xs ys (start m h) ∙ sym (b ∙ ap (λ u. run m ys u) a)

  pub each_later : (P : World m → World m → Type 0) → ((h : Header) (xs ys : Moves m) → P (after m h xs) (after m h (xs ++ ys))) → EachLater m P
  each_later P f h xs w v r l =
      subst (λ u. P u v) (sym r.goes.is) (subst (λ u. P (after m h xs) u) (later_is h xs l.0 w v r.goes.is l.1.is) (f h xs l.0))

  -- Lawful commands.

  gives_of : (h : Header) (e : EventOf m) → LawfulEvent m h e → Gives m (LawfulCommand m) e
  gives_of h (Commands k x) l = l.1
  gives_of h (Deliver i) l = tt
  gives_of h (Lose i) l = tt
  gives_of h (Tick n) l = tt
  gives_of h (Stop n) l = tt

  all_give : (h : Header) (ms : Moves m) → ((x : Move m) → Has ms x → LawfulMove m h x) → AllGive m (LawfulCommand m) ms
  all_give h [] f = tt
  all_give h (Next ∷ ms) f = all_give h ms (λ x g. f x (inr g))
  all_give h (Takes e ∷ ms) f = (gives_of h e (f (Takes e) (inl refl)), all_give h ms (λ x g. f x (inr g)))

  pub lawful_give : (h : Header) (ms : Moves m) → ((x : Move m) → Contains ms x → LawfulMove m h x) → AllGive m (LawfulCommand m) ms
  lawful_give h ms f = all_give h ms (λ x g. f x (contained ms x g))

  both_give : (xs ys : Moves m) → AllGive m (LawfulCommand m) xs → AllGive m (LawfulCommand m) ys → AllGive m (LawfulCommand m) (xs ++ ys)
  both_give [] ys a b = b
  both_give (Next ∷ xs) ys a b = both_give xs ys a b
  both_give (Takes e ∷ xs) ys a b = (a.0, both_give xs ys a.1 b)

  pub always_lawful : (P : World m → Type 0) → ((h : Header) (ms : Moves m) → IsHeader h → AllGive m (LawfulCommand m) ms → P (after m h ms)) → Always m P
  always_lawful P f h ms w r = subst P (sym r.goes.is) (f h ms r.header (lawful_give (start m h).cluster ms r.goes.lawful))

  pub later_lawful : (P : World m → World m → Type 0) → ((h : Header) (xs ys : Moves m) → IsHeader h → AllGive m (LawfulCommand m) xs → AllGive m (LawfulCommand m) (xs ++ ys) → P (after m h xs) (after m h (xs ++ ys))) → EachLater m P
  later_lawful P f h xs w v r l =
      let a = lawful_give (start m h).cluster xs r.goes.lawful in
      let b = both_give xs l.0 a (lawful_give w.cluster l.0 l.1.lawful) in
      subst (λ u. P u v) (sym r.goes.is) (subst (λ u. P (after m h xs) u) (later_is h xs l.0 w v r.goes.is l.1.is) (f h xs l.0 r.header a b))
