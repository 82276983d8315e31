-- Positions of a layout whose units serve: what is known of their cells, and how long it stays true.
use Rattle.std.proofs.Common.{◌≡◌, ◌⊎◌, ℕ, ◌^◌, ◌<◌, ◌≤◌, List, length, true, false, ap, ◌∙◌, sym, subst, inl, inr, arith, Some, None, eqb}
use Rattle.std.specs.Prelude.{nat_lt}
use Rattle.tg_base.specs.Layouts.{Layout}
use Rattle.tg_base.specs.Clusters.{Header}
use Rattle.tg_base.specs.declared.cell.Cell.{Cell}
use Rattle.tg_base.specs.declared.ids.NodeId.{NodeId}
use Rattle.tg_entry.specs.declared.entry.Entry.{Entry}
use Rattle.tg_kind.specs.Meaning.{Meaning}
use Rattle.tg_protocol.specs.Words.{cell_at, cell_eq, too_far, unit_id, seqr_id}
use Rattle.tg_protocol.specs.Entries.{streams_of}
use Rattle.tg_protocol.specs.Layouts.{units_of}
use Rattle.tg_protocol.specs.Sequencers.{SeqrState, scanning, links_of}
use Rattle.tg_protocol.specs.Appending.{names_all}
use Rattle.tg_protocol.specs.Cells.{Place, place_in, unit_at}
use Rattle.tg_law_layouts.proofs.Moves.Members.{Has}
use Rattle.tg_law_finish.proofs.Finish.Nets.{Net, unit_of, seqr_of, on_in, on_alike}
use Rattle.tg_law_finish.proofs.Finish.Others.{Keeps}
use Rattle.tg_law_finish.proofs.Finish.Stores.{Put, cell_itself}

module _ (m : Meaning) (h : Header) (stopped : List NodeId) (k : ℕ) (p : Layout) (longest : ℕ) where
  -- a unit runs and stands at the layout's epoch
  pub record UnitServes (s : Net m) (u : ℕ) : Type 0 where
    pub on : on_in m stopped s (unit_id u) ≡ true
    pub epoch : (unit_of m s u).epoch ≡ p.epoch
    pub low : too_far (unit_of m s u).low ≡ false

  -- and so do those of a position's chain
  pub record Serves (s : Net m) (a : Place) : Type 0 where
    pub epoch : a.epoch ≡ p.epoch
    pub some : 0 < length a.chain
    pub short : length a.chain ≤ longest
    pub unit : (i : ℕ) → i < length a.chain → UnitServes s (unit_at a i)

  -- from a place of the chain on no unit has another cell there
  abbrev pub Clear : Net m → Place → Cell → ℕ → Type 0
  Clear s a c i = (j : ℕ) (x : Cell) → i ≤ j → j < length a.chain → cell_at (unit_of m s (unit_at a j)).cells a.pos ≡ Some x → cell_eq x c ≡ true

  -- what a unit of the chain has there the head has too, unless it has trimmed it
  abbrev pub Below : Net m → Place → Type 0
  Below s a = (j : ℕ) (x : Cell) → j < length a.chain → cell_at (unit_of m s (unit_at a j)).cells a.pos ≡ Some x → nat_lt a.pos (unit_of m s (unit_at a 0)).low ≡ false → cell_at (unit_of m s (unit_at a 0)).cells a.pos ≡ Some x

  -- the sequencer serves, and the next position is unwritten
  pub record Issues (s : Net m) (x : SeqrState) (d : Entry) : Type 0 where
    pub on : on_in m stopped s (seqr_id p.seq) ≡ true
    pub epoch : x.epoch ≡ p.epoch
    pub unfenced : x.fence ≡ None
    pub ready : scanning x ≡ false
    pub rests : x.scan ≡ None
    pub limit : x.limit ≤ 2 ^ 62
    pub named : names_all (streams_of d) (links_of x.lists (streams_of d)) ≡ true
    pub serves : Serves s (place_in p x.next)
    pub unwritten : (j : ℕ) → j < length (place_in p x.next).chain → cell_at (unit_of m s (unit_at (place_in p x.next) j)).cells x.next ≡ None

  abbrev pub CanIssue : Net m → Entry → Type 0
  CanIssue s d = Issues s (seqr_of m h s p.seq) d

  -- each unit that stands in the layout serves
  abbrev pub AllServe : Net m → Type 0
  AllServe s = (u : ℕ) → Has (units_of p) u → UnitServes s u

  -- Other packets.

  pub keeps_unit : (s t : Net m) (u : ℕ) → Keeps m h stopped k p s t → UnitServes s u → UnitServes t u
  keeps_unit s t u keep a = let e = keep.units u a.epoch in record {
    on = on_alike m stopped s t keep.alike (unit_id u) ∙ a.on;
    epoch = ap (λ x. x.epoch) e ∙ a.epoch;
    low = ap (λ x. too_far x.low) e ∙ a.low;
  }

  pub keeps_serves : (s t : Net m) (a : Place) → Keeps m h stopped k p s t → Serves s a → Serves t a
  keeps_serves s t a keep x = record { epoch = x.epoch; some = x.some; short = x.short; unit = λ i less. keeps_unit s t (unit_at a i) keep (x.unit i less) }

  pub keeps_clear : (s t : Net m) (a : Place) (c : Cell) (i : ℕ) → Keeps m h stopped k p s t → Serves s a → Clear s a c i → Clear t a c i
  keeps_clear s t a c i keep x clear = λ j y le less e. clear j y le less (sym (ap (λ u. cell_at u.cells a.pos) (keep.units (unit_at a j) (x.unit j less).epoch)) ∙ e)

  pub keeps_below : (s t : Net m) (a : Place) → Keeps m h stopped k p s t → Serves s a → Below s a → Below t a
  keeps_below s t a keep x below = λ j y less e low.
      let head = keep.units (unit_at a 0) (x.unit 0 x.some).epoch in
      ap (λ u. cell_at u.cells a.pos) head ∙ below j y less (sym (ap (λ u. cell_at u.cells a.pos) (keep.units (unit_at a j) (x.unit j less).epoch)) ∙ e) (sym (ap (λ u. nat_lt a.pos u.low) head) ∙ low)

  pub keeps_issue : (s t : Net m) (d : Entry) → Keeps m h stopped k p s t → CanIssue s d → CanIssue t d
  keeps_issue s t d keep x = subst (λ (y : SeqrState). Issues t y d) (sym keep.seqr) (record {
    on = on_alike m stopped s t keep.alike (seqr_id p.seq) ∙ x.on;
    epoch = x.epoch;
    unfenced = x.unfenced;
    ready = x.ready;
    rests = x.rests;
    limit = x.limit;
    named = x.named;
    serves = keeps_serves s t _ keep x.serves;
    unwritten = λ j less. ap (λ u. cell_at u.cells (seqr_of m h s p.seq).next) (keep.units _ (x.serves.unit j less).epoch) ∙ x.unwritten j less;
  })

  -- A store at one unit.

  pub puts_unit : (s t : Net m) (pos : ℕ) (c : Cell) (u : ℕ) → Put m stopped s t pos c → UnitServes s u → UnitServes t u
  puts_unit s t pos c u put a = record {
    on = put.on (unit_id u) ∙ a.on;
    epoch = put.epochs u ∙ a.epoch;
    low = ap (λ n. too_far n) (put.lows u) ∙ a.low;
  }

  pub puts_serves : (s t : Net m) (pos : ℕ) (c : Cell) (a : Place) → Put m stopped s t pos c → Serves s a → Serves t a
  puts_serves s t pos c a put x = record { epoch = x.epoch; some = x.some; short = x.short; unit = λ i less. puts_unit s t pos c (unit_at a i) put (x.unit i less) }

  -- of the cell that is stored
  pub puts_clear : (s t : Net m) (a : Place) (c : Cell) (i j : ℕ) → Put m stopped s t a.pos c → i ≤ j → Clear s a c i → Clear t a c j
  puts_clear s t a c i j put le clear = λ n x from less e. by n x from less (put.here (unit_at a n) x e)
    where
      by : (n : ℕ) (x : Cell) → j ≤ n → n < length a.chain → (cell_eq x c ≡ true) ⊎ (cell_at (unit_of m s (unit_at a n)).cells a.pos ≡ Some x) → cell_eq x c ≡ true
      by n x from less (inl e) = e
      by n x from less (inr e) = clear n x (omega (arith, le, from)) less e

  -- the head has it now, and had no other
  pub head_clear : (s t : Net m) (a : Place) (c : Cell) → Put m stopped s t a.pos c → Below s a → nat_lt a.pos (unit_of m s (unit_at a 0)).low ≡ false
      → ((x : Cell) → cell_at (unit_of m t (unit_at a 0)).cells a.pos ≡ Some x → cell_eq x c ≡ true) → Clear t a c 1
  head_clear s t a c put below low here = λ n x from less e. by n x less (put.here (unit_at a n) x e)
    where
      by : (n : ℕ) (x : Cell) → n < length a.chain → (cell_eq x c ≡ true) ⊎ (cell_at (unit_of m s (unit_at a n)).cells a.pos ≡ Some x) → cell_eq x c ≡ true
      by n x less (inl e) = e
      by n x less (inr e) = here x (put.stays (unit_at a 0) x (below n x less e low))

  -- the head has it, and answers so
  pub same_clear : (s t : Net m) (a : Place) (c d : Cell) → Put m stopped s t a.pos d → Below s a → nat_lt a.pos (unit_of m s (unit_at a 0)).low ≡ false
      → cell_at (unit_of m s (unit_at a 0)).cells a.pos ≡ Some c → ((v : ℕ) (x : Cell) → cell_at (unit_of m t v).cells a.pos ≡ Some x → cell_at (unit_of m s v).cells a.pos ≡ Some x) → Clear t a c 1
  same_clear s t a c d put below low has back = λ n x from less e. by x (sym (below n x less (back (unit_at a n) x e) low) ∙ has)
    where
      by : (x : Cell) → Some x ≡ Some c → cell_eq x c ≡ true
      by x e = subst (λ y. cell_eq y c ≡ true) (sym (one x c e)) (cell_itself c)
        where
          one : (x c : Cell) → Some x ≡ Some c → x ≡ c
          one x c e = cc

  -- another position than the next
  pub puts_issue : (s t : Net m) (pos : ℕ) (c : Cell) (d : Entry) → Put m stopped s t pos c → seqr_of m h t p.seq ≡ seqr_of m h s p.seq → eqb (seqr_of m h s p.seq).next pos ≡ false → CanIssue s d → CanIssue t d
  puts_issue s t pos c d put same off x = subst (λ (y : SeqrState). Issues t y d) (sym same) (record {
    on = put.on (seqr_id p.seq) ∙ x.on;
    epoch = x.epoch;
    unfenced = x.unfenced;
    ready = x.ready;
    rests = x.rests;
    limit = x.limit;
    named = x.named;
    serves = puts_serves s t pos c _ put x.serves;
    unwritten = λ j less. put.others _ (seqr_of m h s p.seq).next off ∙ x.unwritten j less;
  })
