-- The worlds through which a run comes, and the world that it ends with.
use Rattle.std.proofs.Common.{◌≡◌, ℕ, ◌+◌, ◌≤◌, [], ◌∷◌, ◌++◌, Bool, true, false, refl, sym, ap, ◌∙◌, subst, arith, Some, None, Option}
use Rattle.std.specs.Prelude.{slice_get, is_some}
use Rattle.tg_base.specs.Clusters.{Header}
use Rattle.tg_base.specs.declared.ids.NodeId.{NodeId}
use Rattle.tg_base.specs.declared.ids.Role.{Role}
use Rattle.tg_base.specs.declared.ids.Role.TheVariants as role
use Rattle.tg_base.specs.declared.packet.Packet.{Packet}
use Rattle.tg_kind.specs.Meaning.{Meaning}
use Rattle.tg_model.specs.declared.command.Event.TheVariants.{Command as Commands, Deliver, Lose, Tick, Stop}
use Rattle.tg_model.specs.Kinds.{CommandOf, EventOf}
use Rattle.tg_protocol.specs.Words.{client_id}
use Rattle.tg_protocol.specs.Clients.{Client}
use Rattle.tg_protocol.specs.Worlds.{World, start, moves, comes, handed, delivers, runs, unit_moves, layout_moves, seqr_moves, client_turned, noted_if, commands, ticks, ticks_if, stops_if, effect, happens, next_event}
use Rattle.tg_protocol.specs.Runs.{Moves, Next, Takes, run, Reaches, Later, LawfulMove}
use Rattle.tg_law_layouts.specs.Moves.After.{after}
use Rattle.tg_law_layouts.specs.Moves.Configs.{config, client_in}
use Rattle.tg_law_layouts.proofs.Moves.Lists.{contained}
use Rattle.tg_law_layouts.proofs.Moves.Members.{Has, has_contained, has_left, has_right}
use Rattle.tg_law_layouts.proofs.Moves.Scripts.{run_both}
use Rattle.tg_law_layouts.proofs.Layouts.Layouts.{has_header}

module _ (m : Meaning) where
  -- A step counts one step.

  module _ (w : World m) where
    arrives : (i : ℕ) (p : Packet) (r : Role) → (moves m (handed m w i) p r).steps ≡ w.steps
    unfolding unit_moves layout_moves seqr_moves client_turned
    arrives i p role.Unit = refl
    arrives i p role.Layout = refl
    arrives i p role.Seqr = refl
    arrives i p role.Client = refl

    comes_if : (i : ℕ) (p : Packet) (b : Bool) → (comes m b (handed m w i) p).steps ≡ w.steps
    comes_if i p true = arrives i p p.to.role
    comes_if i p false = refl

    delivered : (i : ℕ) (o : Option Packet) → (delivers m w i o).steps ≡ w.steps
    delivered i None = refl
    delivered i (Some p) = comes_if i p (runs m w p.to)

    noted : (k : ℕ) (c : Client m) (b : Bool) → (noted_if m b w k c).steps ≡ w.steps
    noted k c true = refl
    noted k c false = refl

    commanded : (k : ℕ) (x : CommandOf m) (b : Bool) → (commands m b w k x).steps ≡ w.steps
    unfolding client_turned
    commanded k x true = noted k (client_in m (config m w) k) (is_some (client_in m (config m w) k).work)
    commanded k x false = refl

    ticked : (n : ℕ) (r : Role) → (ticks m w n r).steps ≡ w.steps
    unfolding client_turned
    ticked n role.Unit = refl
    ticked n role.Layout = refl
    ticked n role.Seqr = refl
    ticked n role.Client = refl

    ticked_if : (n : NodeId) (b : Bool) → (ticks_if m b w n).steps ≡ w.steps
    ticked_if n true = ticked n.num n.role
    ticked_if n false = refl

    stopped : (n : NodeId) (b : Bool) → (stops_if m b w n).steps ≡ w.steps
    stopped n true = refl
    stopped n false = refl

    keeps_steps : (e : EventOf m) → (effect m w e).steps ≡ w.steps
    keeps_steps (Commands k x) = commanded k x (runs m w (client_id k))
    keeps_steps (Deliver i) = delivered i (slice_get w.packets i)
    keeps_steps (Lose i) = refl
    keeps_steps (Tick n) = ticked_if n (runs m w n)
    keeps_steps (Stop n) = stopped n (runs m w n)

    counts : (e : EventOf m) → (happens m w e).steps ≡ w.steps + 1
    unfolding happens
    counts e = ap (λ n. n + 1) (keeps_steps e)

  more_steps : (ms : Moves m) (w : World m) → w.steps ≤ (run m ms w).steps
  unfolding run
  more_steps [] w = omega arith
  more_steps (Next ∷ ms) w = more_steps ms (next_event m w)
  more_steps (Takes e ∷ ms) w = let a = counts w e in let b = more_steps ms (happens m w e) in omega (arith, a, b)

  -- Part of a run.

  module _ (h : Header) (zs : Moves m) (r : Reaches m h zs (after m h zs)) (xs ys : Moves m) (split : zs ≡ xs ++ ys) where
    ends_at : after m h (xs ++ ys) ≡ run m ys (after m h xs)
    ends_at = run_both m xs ys (start m h)

    end_is : after m h zs ≡ run m ys (after m h xs)
    end_is = ap (λ (ms : Moves m). after m h ms) split ∙ ends_at

    pub before_reached : Reaches m h xs (after m h xs)
    before_reached = record {
      header = r.header;
      goes = record {
        lawful = λ x c. r.goes.lawful x (contained zs x (subst (λ (ms : Moves m). Has ms x) (sym split) (has_left xs ys x (has_contained xs x c))));
        is = refl;
        few = let a = more_steps ys (after m h xs) in let b = r.goes.few in let e = ap (λ (w : World m). w.steps) end_is in omega (arith, a, b, e);
      };
    }

    pub goes_later : Later m (after m h xs) (after m h zs)
    unfolding run start
    goes_later = (
      ys,
      record {
        lawful = λ x c. subst (λ (g : Header). LawfulMove m g x) (sym (has_header m h xs)) (r.goes.lawful x (contained zs x (subst (λ (ms : Moves m). Has ms x) (sym split) (has_right xs ys x (has_contained ys x c)))));
        is = end_is;
        few = r.goes.few;
      },
    )
