-- What holds of each shape: what may be placed, how much room it takes, and where its Mark stands.
use Rattle.image_code.proofs.Common.{◌≡◌, ℕ, zero, suc, ◌+◌, ◌<◌, ◌≤◌, Bool, true, false, cond, Option, Some, None, List, [], ◌∷◌, ◌++◌, append-nil, length, length-append, length-map, map, map-append, flat_map, refl, ap, sym, ◌∙◌, arith, if◌then◌else◌, slice_get, slice_index, sum_by-cons, Words, address_of, word_at, Addr, PieceNo, decode_of, is_transfer, Node, Graph, IsNodeIn, Item, word_at-address, LeadsBelow, Placement, piece_words, link, long_jump, jump_translated, foreign, words_of, Exit, Head, OfWord, Shape, bare, exit_items, head_items, items_of, mark_items, marked, couple_word, switch_jump, is_mark, marks_in}
use Rattle.layout.specs.declared.items.Item.TheVariants as it
use Rattle.layout.specs.Laid.{AreMarked, BranchStands, Stands, branch_long, branch_short, long_words}
use Rattle.image_code.specs.declared.shape.Exit.TheVariants as exits
use Rattle.image_code.specs.declared.shape.Head.TheVariants as heads
use Rattle.image_code.specs.Made.{visit_of}
use Rattle.cfg_walk.proofs.Points.{within_some}

-- ---- how much room a shape takes

-- how many words and items there are at most, besides those of snippets
abbrev pub head_size : Head → ℕ
head_size (heads.Word word) = 1
head_size (heads.Branch cond to) = long_words (it.Branch cond to)
head_size (heads.LookUp code rd) = length code + 2
head_size (heads.SwitchJump rd distance) = 11
head_size _ = 2

abbrev pub mark_size : Option (OfWord × Head) → ℕ
mark_size None = 0
mark_size (Some (visit, head)) = 2 + head_size head

-- an exit takes four at most
abbrev pub shape_size : Shape → ℕ
shape_size s = mark_size s.mark + 4

abbrev pub marks_of : Option (OfWord × Head) → ℕ
marks_of None = 0
marks_of (Some m) = 1

pub link_few : (rd address : ℕ) → length (link rd address) ≤ 2
link_few rd address = grind arith

-- ---- what stands in a Mark

-- words, or one branch
pub data HeadIs (address : Addr) (head : Head) : Type 0 where
  has_words : (ws : List ℕ) → head_items address head ≡ map it.Word ws → length ws ≤ head_size head → HeadIs address head
  is_branch : (cond : ℕ) (to : PieceNo) → head ≡ heads.Branch cond to → HeadIs address head

pub head_is : (address : Addr) (head : Head) → HeadIs address head
head_is address (heads.Word word) = has_words (word ∷ []) refl (omega arith)
head_is address (heads.Branch cond to) = is_branch cond to refl
head_is address heads.Call = has_words (words_of (link 15 address.0)) refl (omega arith)
head_is address heads.Couple = has_words (couple_word ∷ couple_word ∷ []) refl (omega arith)
head_is address (heads.LookUp code rd) =
    has_words (code ++ words_of (link rd address.0)) (sym (map-append it.Word code (words_of (link rd address.0))))
    (simp (length-append, length-map) (omega (arith, link_few rd address.0)))
head_is address (heads.SwitchJump rd distance) =
    has_words (words_of (switch_jump rd address.0 distance)) refl
    (simp (length-map, length-append) (omega (arith, link_few rd address.0)))

pub switch_some : (address : Addr) (rd distance : ℕ) → 0 < length (head_items address (heads.SwitchJump rd distance))
switch_some address rd distance = grind arith

branch_room : (base : ℕ) (code : List ℕ) (cond to a b : ℕ) → BranchStands base code cond to a b → a < b
branch_room base code cond to a b (branch_short d e r s) = omega arith
branch_room base code cond to a b (branch_long e s r) = omega arith

-- the first of some items takes words
pub record HasFirst (base : ℕ) (p : Placement) (items : List Item) : Type 0 where
  pub item : Item
  pub rest : List Item
  pub is : items ≡ item ∷ rest
  pub room : (a b : ℕ) → Stands base p item a b → a < b

pub first_of : (base : ℕ) (p : Placement) (address : Addr) (head : Head) → 0 < length (head_items address head)
    → HasFirst base p (head_items address head)
first_of base p address head some = by (head_is address head)
  where
    by : HeadIs address head → HasFirst base p (head_items address head)
    by (has_words [] is many) = let none = ap length is in absurd (omega (arith, some, none))
    by (has_words (w ∷ ws) is many) =
        record { item = it.Word w; rest = map it.Word ws; is = is; room = λ a b h. omega (arith, h) }
    by (is_branch cond to is) =
        record { item = it.Branch cond to; rest = []; is = rw is refl; room = branch_room _ _ _ _ }

-- ---- what a shape may be

-- it leads to one of so many pieces
abbrev pub HeadLeads : ℕ → Head → Type 0
HeadLeads count (heads.Branch cond to) = to.0 < count
HeadLeads count _ = Unit {0}

-- likewise, and the words that save an address are four at most
abbrev pub ExitLeads : ℕ → Exit → Type 0
ExitLeads count (exits.Piece piece) = piece.0 < count
ExitLeads count (exits.Saved code) = length code ≤ 4
ExitLeads count _ = Unit {0}

-- a word of the text at a node of the graph
pub record IsAt (text : Words) (graph : Graph) (node : Node) (word : ℕ) : Type 0 where
  pub inside : IsNodeIn graph.blocks graph.opens node
  pub low : word < length text.words

-- A Mark stands for a word of the text, and covers that word itself, but for transfers.
pub record IsVisit (text : Words) (graph : Graph) (visit : OfWord) (head : Head) : Type 0 where
  pub word : ℕ
  pub node : Node
  pub at : IsAt text graph node word
  pub is : visit ≡ visit_of text graph node word
  pub some : 0 < length (head_items visit.address head)
  pub says : is_transfer (decode_of (slice_index text.words word)) ≡ false
      → head ≡ heads.Word (slice_index text.words word)

abbrev pub AreVisits : Words → Graph → ℕ → Option (OfWord × Head) → Type 0
AreVisits text graph count None = Unit {0}
AreVisits text graph count (Some (visit, head)) = IsVisit text graph visit head × HeadLeads count head

pub record IsShaped (text : Words) (graph : Graph) (count : ℕ) (s : Shape) : Type 0 where
  pub visits : AreVisits text graph count s.mark
  pub leads : ExitLeads count s.exit

-- ---- how large shapes are

-- a shape of so many Marks and such a size, besides so many words of snippets
pub record IsMade (text : Words) (graph : Graph) (codes : ℕ → List ℕ) (count marks size most : ℕ) (s : Shape) : Type 0 where
  pub shaped : IsShaped text graph count s
  pub once : marks_of s.mark ≤ marks
  pub large : shape_size s ≤ size
  pub coded : length (flat_map codes s.edges) ≤ most

module _ {text : Words} {graph : Graph} {codes : ℕ → List ℕ} {count size most marks : ℕ} (edges : List ℕ) {exit : Exit}
    (few : length (flat_map codes edges) ≤ most) (out : ExitLeads count exit) where
  pub made : (visit : OfWord) (head : Head) → IsVisit text graph visit head → HeadLeads count head
      → 6 + head_size head ≤ size → 1 ≤ marks → IsMade text graph codes count marks size most (marked visit head edges exit)
  made visit head is leads l once =
      let shaped : IsShaped text graph count (marked visit head edges exit) = record { visits = (is, leads); leads = out } in
      search arith

  pub made_bare : 4 ≤ size → IsMade text graph codes count marks size most (bare edges exit)
  made_bare l =
      let shaped : IsShaped text graph count (bare edges exit) = record { visits = tt; leads = out } in search arith

-- ---- what holds of each shape

marks_more : (x : Item) (rest : List Item) → marks_in (x ∷ rest) ≡ (if is_mark x then 1 else 0) + marks_in rest
marks_more x rest = sum_by-cons (λ (y : Item). cond (is_mark y) 1 0) x rest

none_counted : (items : List Item) → marks_in items ≤ 0 → (n : ℕ) (address : Addr) (node : ℕ)
    → slice_get items n ≡ Some (it.Mark address node) → ⊥
none_counted [] none n address node e = absurd (cc)
none_counted (x ∷ items) none zero address node e =
    let same : x ≡ it.Mark address node = cc in
    absurd (omega (arith, marks_more (it.Mark address node) items, rw same at none))
none_counted (x ∷ items) none (suc n) address node e =
    none_counted items (omega (arith, marks_more x items, none)) n address node e

words_marked : (inside : Bool) (ws : List ℕ) (items : List Item) → AreMarked inside items
    → AreMarked inside (map it.Word ws ++ items)
words_marked inside [] items m = m
words_marked true (w ∷ ws) items m = words_marked true ws items m
words_marked false (w ∷ ws) items m = words_marked false ws items m

exit_marked : (exit : Exit) → AreMarked false (exit_items exit)
exit_marked (exits.Saved code) = rw append-nil at (words_marked false code [] tt)
exit_marked _ = tt

-- at most so many words and items, and so many Marks; and where they lead
pub record IsSized (count size most : ℕ) (items : List Item) : Type 0 where
  pub words : piece_words items ≤ size
  pub few : length items ≤ size
  pub marks : marks_in items ≤ most
  pub leads : (n : ℕ) → LeadsBelow count (slice_get items n)

module _ {count : ℕ} where
  more : (x : Item) {items : List Item} {size other most total : ℕ} → LeadsBelow count (Some x)
      → (long_words x + size ≤ other) × (1 + size ≤ other) × ((if is_mark x then 1 else 0) + most ≤ total)
      → IsSized count size most items → IsSized count other total (x ∷ items)
  more x {items = items} leads room s = record {
    words = omega (arith, sum_by-cons long_words x items, s.words, room);
    few = omega (arith, s.few, room);
    marks = omega (arith, marks_more x items, s.marks, room);
    leads = by;
  }
    where
      by : (n : ℕ) → LeadsBelow count (slice_get (x ∷ items) n)
      by zero = leads
      by (suc n) = s.leads n

  with_words : (ws : List ℕ) (items : List Item) {size other most : ℕ} → length ws + size ≤ other
      → IsSized count size most items → IsSized count other most (map it.Word ws ++ items)
  with_words [] items l s = search arith
  with_words (w ∷ ws) items {size = size} l s =
      more (it.Word w) tt (omega (arith, l)) (with_words ws items {other = length ws + size} (omega arith) s)

  no_items : IsSized count 0 0 []
  no_items = record { words = omega arith; few = omega arith; marks = omega arith; leads = λ n. tt }

  some_words : (ws : List ℕ) {size : ℕ} → length ws ≤ size → IsSized count size 0 (map it.Word ws)
  some_words ws {size} l = rw append-nil at (with_words ws [] {size = 0} {other = size} (omega (arith, l)) no_items)

  exit_sized : (exit : Exit) → ExitLeads count exit → IsSized count 4 0 (exit_items exit)
  exit_sized exits.Behind leads = some_words [] (omega arith)
  exit_sized (exits.Piece piece) leads = more (it.Jump piece) leads (omega arith) no_items
  exit_sized (exits.Far to) leads = some_words (words_of (long_jump to.0)) (omega arith)
  exit_sized exits.Found leads = some_words (words_of (jump_translated 1)) (omega arith)
  exit_sized exits.Foreign leads = some_words (words_of foreign) (omega arith)
  exit_sized (exits.Saved code) leads = some_words code leads

  mark_sized : (text : Words) (graph : Graph) (mark : Option (OfWord × Head)) (rest : List Item) {size : ℕ}
      → AreVisits text graph count mark → IsSized count size 0 rest
      → IsSized count (mark_size mark + size) (marks_of mark) (mark_items mark rest)
  mark_sized text graph None rest visits s = search arith
  mark_sized text graph (Some (visit, head)) rest {size = size} visits s =
      let behind : IsSized count (1 + size) 0 (it.EndMark ∷ rest) = more it.EndMark tt (omega arith) s in
      more (it.Mark visit.address visit.node) {size = head_size head + (1 + size)} {most = 0} tt (omega arith)
      (elim (head_is visit.address head) [
        | has_words ws is many ↦ rw is (with_words ws (it.EndMark ∷ rest) (omega (arith, many)) behind)
        | is_branch cond to is ↦ rw is (more (it.Branch cond to) (rw is at visits.1) (omega arith) behind)
      ])

module _ {text : Words} {graph : Graph} {count : ℕ} (codes : ℕ → List ℕ) (s : Shape) (p : IsShaped text graph count s) where
  abbrev tail : List Item
  tail = map it.Word (flat_map codes s.edges) ++ exit_items s.exit

  tail_sized : IsSized count (length (flat_map codes s.edges) + 4) 0 tail
  tail_sized = with_words (flat_map codes s.edges) (exit_items s.exit) (omega arith) (exit_sized s.exit p.leads)

  pub sized : IsSized count (shape_size s + length (flat_map codes s.edges)) (marks_of s.mark) (items_of codes s)
  sized = let is = mark_sized text graph s.mark tail p.visits tail_sized in search arith

  pub well_marked : AreMarked false (items_of codes s)
  well_marked = by s.mark (words_marked false (flat_map codes s.edges) (exit_items s.exit) (exit_marked s.exit))
    where
      by : (m : Option (OfWord × Head)) → AreMarked false tail → AreMarked false (mark_items m tail)
      by None h = h
      by (Some (visit, head)) h = elim (head_is visit.address head) [
        | has_words ws is many ↦ rw is (words_marked true ws (it.EndMark ∷ tail) h)
        | is_branch cond to is ↦ rw is h
      ]

  -- its Mark is its first item
  pub record IsFirst (n : ℕ) (address : Addr) (node : ℕ) : Type 0 where
    pub first : n ≡ 0
    pub head : Head
    pub is : s.mark ≡ Some (record { address = address; node = node }, head)
    pub visit : IsVisit text graph (record { address = address; node = node }) head

  pub first_mark : (n : ℕ) (address : Addr) (node : ℕ) → slice_get (items_of codes s) n ≡ Some (it.Mark address node)
      → IsFirst n address node
  first_mark n address node e = by s.mark refl p.visits sized.marks n e
    where
      by : (m : Option (OfWord × Head)) → s.mark ≡ m → AreVisits text graph count m
          → marks_in (mark_items m tail) ≤ marks_of m → (n : ℕ)
          → slice_get (mark_items m tail) n ≡ Some (it.Mark address node) → IsFirst n address node
      by None is visits few n e = absurd (none_counted _ few n address node e)
      by (Some (visit, head)) is visits few zero e =
          let same : visit ≡ record { address = address; node = node } = cc in
          record { first = refl; head = head; is = rw same at is; visit = rw same at visits.0 }
      by (Some (visit, head)) is visits few (suc n) e =
          let behind = head_items visit.address head ++ it.EndMark ∷ tail in
          let more = marks_more (it.Mark visit.address visit.node) behind in
          absurd (none_counted behind (omega (arith, more, few)) n address node e)

  -- and it covers the word for which it stands
  pub mark_says : (n : ℕ) (address : Addr) (node : ℕ) → slice_get (items_of codes s) n ≡ Some (it.Mark address node)
      → (word : ℕ) → word_at text address.0 ≡ Some word
      → is_transfer (decode_of (slice_index text.words word)) ≡ false
      → slice_get (items_of codes s) (suc n) ≡ Some (it.Word (slice_index text.words word))
  mark_says n address node e word at plain =
      let f = first_mark n address node e in
      let stands : address.0 ≡ address_of text f.visit.word = ap (λ (v : OfWord). v.address.0) f.visit.is in
      let same : f.visit.word ≡ word =
      (within_some _ _ word (sym (word_at-address text f.visit.word) ∙ rw stands at at)).1 in
      rw (f.first, f.is, (rw same at f.visit.says) plain) refl
