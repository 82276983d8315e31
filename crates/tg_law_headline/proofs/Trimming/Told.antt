-- Over a run, whatever units are asked to trim was told by a client that trims.
use Rattle.std.proofs.Common.{◌≡◌, ℕ, ◌≤◌, [], ◌∷◌, ◌++◌, refl, sym, subst, arith, Some, append-nil}
use Rattle.std.specs.Prelude.{Contains}
use Rattle.tg_base.specs.Clusters.{Header}
use Rattle.tg_kind.specs.Meaning.{Meaning}
use Rattle.tg_model.specs.Kinds.{EventOf}
use Rattle.tg_protocol.specs.Words.{numbers}
use Rattle.tg_protocol.specs.Views.{Entries}
use Rattle.tg_protocol.specs.Clients.{Client, new_client}
use Rattle.tg_protocol.specs.Walked.{Walked, walked_in}
use Rattle.tg_protocol.specs.Worlds.{World, start, happens, next_event}
use Rattle.tg_protocol.specs.Runs.{Move, Moves, Next as Counts, Takes, Reaches, run}
use Rattle.tg_law_layouts.specs.Moves.After.{after}
use Rattle.tg_law_layouts.specs.Moves.Configs.{Config, config}
use Rattle.tg_law_layouts.proofs.Moves.Lists.{at_map}
use Rattle.tg_law_layouts.proofs.Moves.Members.{has_contained}
use Rattle.tg_law_walks.proofs.Drafts.Written.{then_next, then_takes}
use Rattle.tg_law_walks.proofs.Once.Along.{on_moves}
use Rattle.tg_law_walks.proofs.Once.Nowhere.{reached}
use Rattle.tg_law_walks.proofs.Lists.Reached.{before_reached}
use Rattle.tg_law_headline.proofs.Trims.Hands.{FloorOk, ClientOk}
use Rattle.tg_law_headline.proofs.Trims.Sent.{trim_is}
use Rattle.tg_law_headline.proofs.Leaves.Ends.{ends_have}
use Rattle.tg_law_headline.specs.Trimming.Trimming.{FloorTold, TrimsComeOfFloors}
use Rattle.tg_law_headline.proofs.Trimming.Asked.{Held, stepped, held_more}
use Rattle.tg_law_headline.proofs.Leaves.Passing.{ended_on}

module _ (m : Meaning) (h : Header) where
  -- It was told so in later epochs too, and by longer runs.

  pub told_grows : (xs : Moves m) (e f b : ℕ) → e ≤ f → FloorTold m h xs e b → FloorTold m h xs f b
  told_grows xs e f b le k = record {
    client = k.client;
    end = k.end;
    came = k.came;
    command = k.command;
    at = k.at;
    played = k.played;
    reaches = k.reaches;
    in_time = (let a = k.in_time in omega (arith, a, le));
  }

  pub told_later : (xs ys : Moves m) (e b : ℕ) → FloorTold m h xs e b → FloorTold m h (xs ++ ys) e b
  told_later xs ys e b k = record {
    client = k.client;
    end = k.end;
    came = ended_on m h xs ys k.client k.end k.came;
    command = k.command;
    at = k.at;
    played = k.played;
    reaches = k.reaches;
    in_time = k.in_time;
  }

  -- which entries are spoken of doesn't matter
  abbrev none : Entries
  none = []

  abbrev pub AllTold : Moves m → Config m → Type 0
  AllTold xs c = Held m h [] (FloorTold m h xs) (told_grows xs) c

  later : (xs ys : Moves m) (c : Config m) → AllTold xs c → AllTold (xs ++ ys) c
  later xs ys c k = held_more m h [] [] (FloorTold m h xs) (told_grows xs) (FloorTold m h (xs ++ ys)) (told_grows (xs ++ ys)) (λ e b t. told_later xs ys e b t) c k

  -- in a step
  module _ (xs : Moves m) (e : EventOf m) where
    abbrev zs : Moves m
    zs = xs ++ Takes e ∷ []

    tells : (k : ℕ) (y : Walked m) → walked_in m (run m xs (start m h)) e k ≡ Some y → FloorOk m (FloorTold m h (xs ++ Takes e ∷ [])) (told_grows (xs ++ Takes e ∷ [])) h.objects [] y.client y.work
    tells k y is t command came = record {
      client = k;
      end = y;
      came = record { before = xs; event = e; after = []; split = refl; walked = is };
      command = command;
      at = t;
      played = came;
      reaches = omega arith;
      in_time = omega arith;
    }

    takes_told : Reaches m h xs (after m h xs) → AllTold xs (config m (after m h xs)) → AllTold (xs ++ Takes e ∷ []) (config m (happens m (after m h xs) e))
    takes_told r k =
        stepped m h [] (FloorTold m h (xs ++ Takes e ∷ [])) (told_grows (xs ++ Takes e ∷ [])) xs r (later xs (Takes e ∷ []) (config m (after m h xs)) k) e
        (ends_have m h.objects [] (FloorOk m (FloorTold m h (xs ++ Takes e ∷ [])) (told_grows (xs ++ Takes e ∷ [])) h.objects []) (after m h xs) e tells)

  module _ (zs : Moves m) (r : Reaches m h zs (after m h zs)) where
    on_move : (xs : Moves m) (x : Move m) (rest : Moves m) → zs ≡ xs ++ x ∷ rest → AllTold xs (config m (after m h xs)) → AllTold (xs ++ x ∷ []) (config m (after m h (xs ++ x ∷ [])))
    on_move xs Counts rest split k = subst (λ (w : World m). AllTold (xs ++ Counts ∷ []) (config m w)) (sym (then_next m h xs)) (by (later xs (Counts ∷ []) (config m (after m h xs)) k))
      where
        by : AllTold (xs ++ Counts ∷ []) (config m (after m h xs)) → AllTold (xs ++ Counts ∷ []) (config m (next_event m (after m h xs)))
        by k = record { sent = k.sent; clients = k.clients }
    on_move xs (Takes e) rest split k = subst (λ (w : World m). AllTold (xs ++ Takes e ∷ []) (config m w)) (sym (then_takes m h xs e)) (takes_told xs e (before_reached m h zs r xs (Takes e ∷ rest) split) k)

    start_client : (k : ℕ) → ClientOk m (FloorTold m h []) (told_grows []) h.objects [] (new_client m h k)
    unfolding new_client
    start_client k = tt

    start_told : AllTold [] (config m (after m h []))
    unfolding run start
    start_told = record {
      sent = λ x e b has. absurd has;
      clients = λ k. at_map (new_client m h) (numbers h.clients 0) k (new_client m h k) (λ (c : Client m). ClientOk m (FloorTold m h []) (told_grows []) h.objects [] c) (λ j. start_client j) (start_client k);
    }

    -- whatever was asked so far
    pub all_told : AllTold zs (config m (after m h zs))
    all_told = on_moves m h zs r (λ (ms : Moves m). AllTold ms (config m (after m h ms))) on_move [] zs [] (sym (append-nil zs)) start_told

pub trims_come_of_floors : (m : Meaning) → TrimsComeOfFloors m
trims_come_of_floors m h ms w r x epoch below sent is =
    (all_told m h ms (reached m h ms w r)).sent x epoch below (has_contained _ x (subst (λ (v : World m). Contains v.packets x) r.goes.is sent)) (trim_is x.msg epoch below is)
