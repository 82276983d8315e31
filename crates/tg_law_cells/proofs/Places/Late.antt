-- Pages and tails after a layout was decided.
use Rattle.std.proofs.Common.{◌≡◌, ◌⊎◌, ℕ, ◌-◌, ◌<◌, ◌≤◌, ◌++◌, List, length, sym, subst, inl, inr, arith}
use Rattle.tg_base.specs.Layouts.{Layout}
use Rattle.tg_base.specs.Clusters.{Header, IsHeader}
use Rattle.tg_base.specs.declared.cell.Cell.{Cell}
use Rattle.tg_base.specs.declared.cell.Cell.TheVariants.{Data}
use Rattle.tg_base.specs.declared.msg.Msg.TheVariants as msg
use Rattle.tg_base.specs.declared.packet.Packet.{Packet}
use Rattle.tg_kind.specs.Meaning.{Meaning}
use Rattle.tg_protocol.specs.Layouts.{chain_of}
use Rattle.tg_protocol.specs.Cells.{place_in, unit_at}
use Rattle.tg_protocol.specs.Runs.{Moves, LawfulCommand}
use Rattle.tg_law_layouts.specs.Moves.After.{after}
use Rattle.tg_law_layouts.specs.Moves.Configs.{config}
use Rattle.tg_law_layouts.specs.Moves.Telling.{Claim}
use Rattle.tg_law_layouts.proofs.Moves.Lists.{contained}
use Rattle.tg_law_layouts.proofs.Moves.Members.{Has}
use Rattle.tg_law_layouts.proofs.Moves.Moves.{AllGive}
use Rattle.tg_law_layouts.proofs.Requests.Told.{Tells}
use Rattle.tg_law_layouts.proofs.Layouts.Layouts.{has_header}
use Rattle.tg_law_layouts.proofs.Layouts.Deciding.{K, known}
use Rattle.tg_law_cells.proofs.Cells.Befores.{has_at, at_has}
use Rattle.tg_law_cells.proofs.Cells.Justified.{ToldBy}
use Rattle.tg_law_cells.proofs.Cells.Settles.{Settled, Rooted, Got, along, gone_stays, apart, Line as Facts}
use Rattle.tg_law_cells.proofs.Cells.Settling.{roots, told_here, told_by}
use Rattle.tg_law_cells.proofs.Cells.Successors.{words}
use Rattle.tg_law_cells.proofs.Homes.Homing.{Homes, homes_hold}
use Rattle.tg_law_cells.specs.Order.Tails.{EachPassed}
use Rattle.tg_law_cells.specs.Places.Late.{WasSent, LatePages}
use Rattle.tg_law_cells.proofs.Places.Left.{passed_lawful, line, epoch_of, stands_at, survivor, since_here, up_known, was_known}
use Rattle.tg_law_cells.proofs.Places.Pages.{Lates, lates_hold}

-- What was told in a world was sent there.

module _ (m : Meaning) (h : Header) (xs : Moves m) (header : IsHeader h) (give : AllGive m (LawfulCommand m) xs) where
  pub homes : Homes m h words (after m h xs).packets (line m h xs header give) (roots m h xs header give (told_here m h xs header give)).tells (config m (after m h xs))
  homes = homes_hold m h words (after m h xs).packets (line m h xs header give) (roots m h xs header give (told_here m h xs header give)).tells h xs (record { cluster = has_header m h xs; sent = λ x g. g })

  was_sent : (n : ℕ) (k : Claim) (d : List ℕ) → Tells (after m h xs).packets n k → k.cell ≡ Data d → WasSent m (after m h xs) 0 k.pos d
  was_sent n k d t cell =
      let a = (homes.tells n k d t cell).home in
      record { epoch = a.epoch; late = omega arith; packet = a.write; sent = contained _ a.write a.sent; is = a.is }

module _ (m : Meaning) (h : Header) (xs ys : Moves m) (header : IsHeader h) (first : AllGive m (LawfulCommand m) xs) (give : AllGive m (LawfulCommand m) (xs ++ ys)) where
  abbrev final : List Packet
  final = (after m h (xs ++ ys)).packets

  abbrev D : Layout → Type 0
  D = K m h (xs ++ ys)

  facts : Facts words (K m h (xs ++ ys)) (after m h (xs ++ ys)).packets
  facts = line m h (xs ++ ys) header give

  module _ (q : Layout) (kq : K m h xs q) where
    abbrev Sent' : ℕ → List ℕ → Type 0
    Sent' p d = WasSent m (after m h xs) 0 p d ⊎ WasSent m (after m h (xs ++ ys)) q.epoch p d

    -- what a unit told of an epoch that it had left
    old : (n e p : ℕ) (d : List ℕ) → ToldBy final n e p (Data d) → e < epoch_of m h xs header first n → Sent' p d
    old n e p d t less =
        let up = t.epoch in
        inl (subst (λ (j : ℕ). WasSent m (after m h xs) 0 j d) t.pos (was_sent m h xs header first n t.claim d ((since_here m h xs ys header first give).told n t.claim t.tells (omega (arith, up, less))) t.cell))

    -- what was settled in an earlier epoch
    settled_early : (e p : ℕ) (d : List ℕ) → (x : Settled words D final e p (Data d)) → x.layout.epoch < q.epoch → Sent' p d
    settled_early e p d x less =
        let s = survivor m h xs header first x.layout q p (was_known m h xs ys header first give x.layout q x.decided kq (omega (arith, less))) kq less in
        let i = at_has (chain_of x.layout p) s.by s.here in
        old s.by x.layout.epoch p d (subst (λ (n : ℕ). ToldBy final n x.layout.epoch p (Data d)) i.1.is (x.told i.0 i.1.within)) s.left

    -- what a unit of a later layout's chain told in an earlier epoch
    early : (n p : ℕ) (d : List ℕ) (k : Claim) → Tells final n k → k.pos ≡ p → k.cell ≡ Data d → k.epoch < q.epoch → (r : Layout) → D r → Has (chain_of r p) n → q.epoch ≤ r.epoch → Sent' p d
    early n p d k t pos cell less r dr here le = by root.how
      where
        root : Rooted words D final n k.epoch p (Data d)
        root = subst (λ (y : Cell). Rooted words D final n k.epoch p y) cell
            (subst (λ (j : ℕ). Rooted words D final n k.epoch j k.cell) pos ((roots m h (xs ++ ys) header give (told_here m h (xs ++ ys) header give)).tells n k t))

        soon : root.layout.epoch < q.epoch
        soon = let a = root.up_to in omega (arith, a, less)

        dq : D q
        dq = up_known m h xs ys header first give q kq

        stood : (g : Got words D final n p (Data d) root.layout) → Has (chain_of q p) n ⊎ words.Gone q n → Sent' p d
        stood g (inl x) = let a = stands_at m h xs header first q kq n (facts.stands q p n dq x) in old n root.layout.epoch p d g.own (omega (arith, a, soon))
        stood g (inr x) = absurd (facts.out r n dr (gone_stays words D final facts (r.epoch - q.epoch) q r n dq dr (apart words D final facts q.epoch r.epoch le) x) (facts.stands r p n dr here))

        by : Got words D final n p (Data d) root.layout ⊎ Settled words D final root.layout.epoch p (Data d) → Sent' p d
        by (inl g) = stood g (along words D final facts (q.epoch - root.layout.epoch) root.layout q n p (Data d) root.decided dq (apart words D final facts root.layout.epoch q.epoch (omega (arith, soon)))
            (subst (λ (v : ℕ). Has (chain_of root.layout p) v) g.at.is (has_at (chain_of root.layout p) g.place g.at.within)) g.own)
        by (inr x) = settled_early root.layout.epoch p d x (let a = x.up_to in omega (arith, a, soon))

    wrote : (x : Packet) (e p : ℕ) (d : List ℕ) → Has final x → x.msg ≡ msg.Write e p d → q.epoch ≤ e → Sent' p d
    wrote x e p d has is late = inr (record { epoch = e; late = late; packet = x; sent = contained _ x has; is = is })

    lates : Lates m h final q.epoch Sent' facts.some early wrote (config m (after m h (xs ++ ys)))
    lates = lates_hold m h final q.epoch Sent' facts.some early wrote h (xs ++ ys) (record { cluster = has_header m h (xs ++ ys); sent = λ x g. g })

  late_here : LatePages m (after m h xs) (after m h (xs ++ ys))
  late_here pos page s q dq = by (le_or_more q.epoch s.layout.epoch)
    where
      le_or_more : (a b : ℕ) → (a ≤ b) ⊎ (b < a)
      le_or_more a b = grind arith

      kq : K m h xs q
      kq = (known m h xs q.epoch q dq).0

      ds : K m h (xs ++ ys) s.layout
      ds = (known m h (xs ++ ys) s.layout.epoch s.layout s.decided).0

      less : 0 < length (chain_of s.layout pos)
      less = facts.some s.layout pos ds

      t : ToldBy final (unit_at (place_in s.layout pos) 0) s.layout.epoch pos (Data page)
      t = told_by _ _ _ _ (Data page) (s.told 0 less)

      by : (q.epoch ≤ s.layout.epoch) ⊎ (s.layout.epoch < q.epoch) → WasSent m (after m h xs) 0 pos page ⊎ WasSent m (after m h (xs ++ ys)) q.epoch pos page
      by (inl le) = subst (λ (n : ℕ). Sent' q kq n page) t.pos ((lates q kq).tells (unit_at (place_in s.layout pos) 0) t.claim page t.tells t.cell s.layout ds
          (subst (λ (n : ℕ). Has (chain_of s.layout n) (unit_at (place_in s.layout pos) 0)) (sym t.pos) (has_at (chain_of s.layout pos) 0 less)) le)
      by (inr more') = settled_early q kq s.layout.epoch pos page (record { layout = s.layout; decided = ds; up_to = omega arith; told = λ k i. told_by _ _ _ _ (Data page) (s.told k i) }) more'

pub late_pages : (m : Meaning) → EachPassed m (LatePages m)
late_pages m = passed_lawful m (LatePages m) (λ h xs ys a b c. late_here m h xs ys a b c)
