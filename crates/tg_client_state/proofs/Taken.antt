-- The directory is taken over.
use Rattle.std.proofs.Common.{◌≡◌, Option, Some, None, refl, sym, ap, ◌∙◌}
use Rattle.tg_kind.specs.Meaning.{Meaning}
use Rattle.tg_protocol.specs.Views.{View}
use Rattle.tg_protocol.specs.Answers.{dir_or, took_over}
use Rattle.tg_client_state.specs.States.{StateOf, Rest, client_of, rest_of, directory_in}

module _ (m : Meaning) where
  took-by : (s : StateOf m) (r : Rest m) (v : Option (View m)) →
      took_over m (client_of m s r) v ≡ client_of m (record s { dir = dir_or m s.dir (directory_in m v) }) (rest_of m (took_over m (client_of m s r) v))
  took-by s r None = refl
  took-by s r (Some v) = refl

  pub taken : (s : StateOf m) (r : Rest m) (d : Option m.state) → d ≡ directory_in m r.view →
      took_over m (client_of m s r) r.view ≡ client_of m (record s { dir = dir_or m s.dir d }) (rest_of m (took_over m (client_of m s r) r.view))
  taken s r d h = took-by s r r.view ∙ ap (λ e. client_of m (record s { dir = dir_or m s.dir e }) (rest_of m (took_over m (client_of m s r) r.view))) (sym h)
