-- The law on what is sent to units.
use Rattle.std.proofs.Common.{◌⊎◌, ℕ, zero, suc, ◌<◌, List, [], length, sym, subst, inl, inr, arith}
use Rattle.tg_base.specs.Clusters.{Header, IsHeader}
use Rattle.tg_base.specs.Layouts.{Layout}
use Rattle.tg_base.specs.declared.cell.Cell.{Cell}
use Rattle.tg_base.specs.declared.cell.Cell.TheVariants.{Junk, Data}
use Rattle.tg_base.specs.declared.ids.NodeId.{NodeId}
use Rattle.tg_base.specs.declared.msg.Msg.{Msg}
use Rattle.tg_base.specs.declared.msg.Msg.TheVariants as msg
use Rattle.tg_base.specs.declared.packet.Packet.{Packet}
use Rattle.tg_kind.specs.Meaning.{Meaning}
use Rattle.tg_protocol.specs.Words.{numbers}
use Rattle.tg_protocol.specs.Layouts.{first_layout}
use Rattle.tg_protocol.specs.Cells.{Place, place_in, last_unit}
use Rattle.tg_protocol.specs.Sequencers.{SeqrState, new_seqr}
use Rattle.tg_protocol.specs.Clients.{Client, new_client}
use Rattle.tg_protocol.specs.Worlds.{World, start}
use Rattle.tg_law_layouts.proofs.Moves.Members.{has_contained}
use Rattle.tg_law_layouts.specs.Moves.Configs.{Config, config}
use Rattle.tg_law_layouts.specs.Moves.Telling.{Claim, Told}
use Rattle.tg_law_cells.specs.Cells.Chains.{ToldUpTo, FirstTold, IsJustified, StoresJustified}
use Rattle.tg_law_cells.specs.Cells.Chains as says
use Rattle.tg_law_layouts.specs.Layouts.Decisions.{IsOfDecided}
use Rattle.tg_law_layouts.proofs.Moves.Lists.{contained, at_map}
use Rattle.tg_law_layouts.proofs.Layouts.Decisions.{Pax}
use Rattle.tg_law_layouts.proofs.Layouts.Layouts.{start_pax, has_header}
use Rattle.tg_law_layouts.proofs.Layouts.Standing.{IsKnown}
use Rattle.tg_law_layouts.proofs.Layouts.Deciding.{decided_for, rules}
use Rattle.tg_law_layouts.proofs.Layouts.Decided.{Lay, start_lay, keeps as lay_keeps}
use Rattle.tg_law_layouts.proofs.Moves.Moves.{AllGive, Keeps, cases_map, keeps_above, both_keep, run_keeps}
use Rattle.tg_law_layouts.proofs.Moves.Always.{always_lawful}
use Rattle.tg_law_layouts.proofs.Requests.Told.{Tells}
use Rattle.tg_law_layouts.proofs.Requests.Starts.{All, all_keeps, start_all}
use Rattle.tg_law_cells.proofs.Cells.Justified.{ToldBy, Upto}
use Rattle.tg_law_cells.proofs.Cells.Successors.{some_there}
use Rattle.tg_law_cells.proofs.Cells.Jobs.{MaybeOk, CellOk}
use Rattle.tg_law_cells.proofs.Cells.Hands as hands
use Rattle.tg_law_cells.proofs.Cells.Sent.{Justified, GoesDown, GoesAside}
use Rattle.tg_law_cells.proofs.Cells.Chains.{Cells, Low, cells_keep}
use Rattle.tg_protocol.specs.Runs.{Moves, LawfulCommand, Always}
use Rattle.tg_law_layouts.specs.Moves.After.{after}

-- From the words of the argument to those of the laws.

pub told_of : (ps : List Packet) (u : ℕ) (k : Claim) → Tells ps u k → Told ps u k
told_of ps u k t = record {
  ask = t.ask;
  answer = t.answer;
  asked = contained ps t.ask t.asked;
  answered = contained ps t.answer t.answered;
  to_unit = t.to_unit;
  from_unit = t.from_unit;
  back = t.back;
  number = t.number;
  tells = t.tells;
}

pub up_to : (ps : List Packet) (u e p : ℕ) (c : Cell) → ToldBy ps u e p c → ToldUpTo ps u e p c
up_to ps u e p c t = record { claim = t.claim; told = told_of ps u t.claim t.tells; up_to = t.epoch; at = t.pos; is = t.cell }

pub first_told : (ps : List Packet) (a : Place) (c : Cell) (n : ℕ) → Upto ps a c n → FirstTold ps a c n
first_told ps a c n f k less = up_to ps _ _ _ c (f k less)

module _ (m : Meaning) (w : World m) (K : Layout → Type 0) (decided : (q : Layout) → K q → IsOfDecided m w q) (some : (q : Layout) (p : ℕ) → K q → 0 < length (place_in q p).chain) where
  down : (to : NodeId) (e p : ℕ) (c : Cell) → GoesDown w.packets K to e p c → says.GoesDown m w to e p c
  down to e p c g = record { layout = g.layout; decided = decided g.layout g.known; place = g.place; at = g.at; epoch_is = g.epoch; pos_is = g.pos; index = g.index; within = by g.index g.within; unit = g.unit; told = first_told w.packets g.place c g.index g.told }
    where
      by : (i : ℕ) → (0 < i → i < length g.place.chain) → i < length g.place.chain
      by zero within = subst (λ (a : Place). 0 < length a.chain) (sym g.at) (some g.layout g.place.pos g.known)
      by (suc i) within = within (omega arith)

  aside : (e p : ℕ) (c : Cell) → GoesAside w.packets K e p c → says.GoesAside m w e p c
  aside e p c g = record { layout = g.layout; decided = decided g.layout g.known; epoch_is = g.epoch; told = by g.told }
    where
      by : CellOk w.packets g.layout p c → FirstTold w.packets (place_in g.layout p) c (length (place_in g.layout p).chain) ⊎ ToldUpTo w.packets (last_unit (place_in g.layout p)) g.layout.epoch p c
      by (inl f) = inl (first_told w.packets _ c _ f)
      by (inr t) = inr (up_to w.packets _ _ _ c t)

  pub justified : (to : NodeId) (x : Msg) → Justified w.packets K to x → IsJustified m w to x
  unfolding down
  justified to (msg.Write e p d) j = down to e p (Data d) j
  justified to (msg.Fill e p) j = down to e p Junk j
  justified to (msg.Copy e p c) (inl j) = inl (record { down = down to e p c j.0; past = j.1 })
  justified to (msg.Copy e p c) (inr j) = inr (aside e p c j)
  justified to x j = j

module _ (m : Meaning) where
  start_client : (h : Header) (k : ℕ) → hands.WorkOk m [] (new_client m h k).stand (new_client m h k).work
  unfolding new_client
  start_client h k = tt

  start_scan : (h : Header) (s : ℕ) → MaybeOk [] (new_seqr s h.limit (first_layout h)).proj (new_seqr s h.limit (first_layout h)).scan
  unfolding new_seqr
  start_scan h s = tt

  start_cells : (h : Header) → Cells m (config m (start m h))
  unfolding start
  start_cells h = record {
    hands = λ k. at_map (new_client m h) (numbers h.clients 0) k (new_client m h k) (λ (x : Client m). hands.WorkOk m [] x.stand x.work) (λ j. start_client h j) (start_client h k);
    scans = λ s. at_map (λ n. new_seqr n h.limit (first_layout h)) (numbers h.seqs 0) s (new_seqr s h.limit (first_layout h)) (λ (x : SeqrState). MaybeOk [] x.proj x.scan) (λ j. start_scan h j) (start_scan h s);
    sent = λ x g. absurd g;
  }

  abbrev pub Below : Config m → Type 0
  Below c = All m c × (Pax m c × Lay m c)

  below_keeps : Keeps m Below
  below_keeps c a = both_keep m (All m) (λ d. Pax m d × Lay m d) (all_keeps m) (lay_keeps m) c a

  pub low_of : (c : Config m) → Below c → Low m c
  low_of c a = record { numbers = a.0.0.0; units = a.0.0.1; pax = a.1.0; lay = a.1.1 }

  pub keeps : Keeps m (λ c. Below c × Cells m c)
  keeps = keeps_above m Below (Cells m) below_keeps (λ c a f. cases_map m c (Cells m) (λ d. Below d → Cells m d) (λ d x y. x) (cells_keep m c (low_of c a) f))

  pub start_below : (h : Header) → Below (config m (start m h)) × Cells m (config m (start m h))
  start_below h = ((start_all m h, (start_pax m h, start_lay m h)), start_cells h)

  pub cells_hold : (h : Header) (xs : Moves m) → Cells m (config m (after m h xs))
  cells_hold h xs = (run_keeps m (λ c. Below c × Cells m c) keeps xs (start m h) (start_below h)).1

  justified_here : (h : Header) (xs : Moves m) → IsHeader h → AllGive m (LawfulCommand m) xs → StoresJustified m (after m h xs)
  justified_here h xs a b x g = justified m (after m h xs) _ (λ q k. decided_for m h xs a b q (known q k)) (λ q p k. some_there q p (rules m h xs a b q (known q k))) x.to x.msg ((cells_hold h xs).sent x (has_contained _ x g))
    where
      known : (q : Layout) → IsKnown (after m h xs).cluster.layouts (first_layout (after m h xs).cluster) (after m h xs).packets q → IsKnown h.layouts (first_layout h) (after m h xs).packets q
      known q k = subst (λ (y : Header). IsKnown y.layouts (first_layout y) (after m h xs).packets q) (has_header m h xs) k

  pub stores_are_justified : Always m (StoresJustified m)
  stores_are_justified = always_lawful m (StoresJustified m) justified_here
