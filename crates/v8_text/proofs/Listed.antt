-- Listings that are read, line by line.
use Rattle.v8_text.proofs.Common.{◌≡◌, ◌≢◌, ℕ, suc, ◌+◌, ◌*◌, ◌%◌, ◌^◌, ◌<◌, ◌≤◌, true, false, List, [], ◌∷◌, ◌++◌, length, take, slice_index, Option, Some, None, refl, ap, sym, ◌∙◌, append_assoc, arith, All, eq-eqb, eqb-true, hex_of, hex_number_of, split_at, address_back, address_read, split_back, split_read, line_text, lines_from, listing_text, word_text, ListingsReadBack, ReadsBack, IsWordOf}
use Rattle.std.proofs.lemmas.List.{append_cancel_left, append-nil, length-append, length-take-le, take_more}
use Rattle.std.proofs.lemmas.List.Elements.{All-append, All-cons, All-head, All-nil, All-tail}
use Rattle.eel_base.specs.CodeText.{Words}
use Rattle.eel_base.specs.Code.{IsText}
use Rattle.v8_text.specs.Private.{is_next, IsLineOf, IsNextLine, line_of}
use Rattle.v8_text.specs.Listings.{AreListed, IsBadLine}
use Rattle.v8_text.proofs.Found.{whole_append}
use Rattle.v8_text.proofs.Plain.{hex_plain, plain_whole}
use Rattle.v8_text.proofs.Words.{word_back, word_whole}

-- ---- one line

-- a line is what stands before its newline
line_split : (at w : ℕ) (after : List ℕ) → line_text at w ++ after ≡ line_of at w ++ (10 ∷ after)
line_split at w after =
    ap (λ (rest : List ℕ). hex_of at ++ (32 ∷ rest)) (append_assoc (word_text at w) (10 ∷ []) after)

pub line_back : (at w : ℕ) (after : List ℕ) → w < 2 ^ 32 → split_at 10 (line_text at w ++ after) ≡ Some (line_of at w, after)
line_back at w after fits =
    ap (split_at 10) (line_split at w after)
    ∙ split_back 10 (line_of at w) after
    (whole_append 10 (hex_of at) (32 ∷ word_text at w) (plain_whole 10 (omega arith) (hex_of at) (hex_plain at))
    (word_whole at w fits))

-- and a word's text is what stands behind its address
pub word_behind : (at w : ℕ) → split_at 32 (line_of at w) ≡ Some (hex_of at, word_text at w)
word_behind at w =
    split_back 32 (hex_of at) (word_text at w) (plain_whole 32 (omega arith) (hex_of at) (hex_plain at))

both : {a b c d : List ℕ} → ◌≡◌ {A = Option (List ℕ × List ℕ)} (Some (a, b)) (Some (c, d)) → (a ≡ c) × (b ≡ d)
both {a} {b} {c} {d} h =
    let same : ◌≡◌ {A = List ℕ × List ℕ} (a, b) (c, d) = cc h in
    (ap (λ (p : List ℕ × List ℕ). p.0) same, ap (λ (p : List ℕ × List ℕ). p.1) same)

pub record SameLine (at w : ℕ) (after : List ℕ) (other v : ℕ) (rest : List ℕ) : Type 0 where
  pub address : at ≡ other
  pub word : w ≡ v
  pub after_is : after ≡ rest

pub same_line : (at w : ℕ) (after : List ℕ) (other v : ℕ) (rest : List ℕ) → at < 2 ^ 32 → w < 2 ^ 32 → other < 2 ^ 32
    → v < 2 ^ 32 → line_text at w ++ after ≡ line_text other v ++ rest → SameLine at w after other v rest
same_line at w after other v rest a b c d same =
    let lines = both (sym (line_back at w after b) ∙ ap (split_at 10) same ∙ line_back other v rest d) in
    let words = both (sym (word_behind at w) ∙ ap (split_at 32) lines.0 ∙ word_behind other v) in
    let address : at ≡ other = cc (words.0, address_back at a, address_back other c) in
    record {
      address = address;
      word = cc (words.1, address, word_back at w a b, word_back other v c d);
      after_is = lines.1;
    }

-- ---- what is told of a line

pub no_line : (line : List ℕ) → split_at 32 line ≡ None → (at w : ℕ) → line ≢ line_of at w
no_line line none at w same = cc (word_behind at w)

-- the parts of a line that was split
parts_of : (line : List ℕ) (parts : List ℕ × List ℕ) → split_at 32 line ≡ Some parts → (at w : ℕ) → line ≡ line_of at w
    → parts ≡ (hex_of at, word_text at w)
parts_of line parts split at w same = cc (word_behind at w)

pub no_address : (line : List ℕ) (parts : List ℕ × List ℕ) → split_at 32 line ≡ Some parts → hex_number_of parts.0 ≡ None
    → (at w : ℕ) → at < 2 ^ 32 → line ≢ line_of at w
no_address line parts split none at w low same =
    let are = parts_of line parts split at w same in
    cc (ap (λ (p : List ℕ × List ℕ). hex_number_of p.0) are, address_back at low)

address_same : (line : List ℕ) (parts : List ℕ × List ℕ) (at : ℕ) → split_at 32 line ≡ Some parts
    → hex_number_of parts.0 ≡ Some at → (other w : ℕ) → other < 2 ^ 32 → line ≡ line_of other w → other ≡ at
address_same line parts at split is other w low same =
    let are = parts_of line parts split other w same in
    cc (ap (λ (p : List ℕ × List ℕ). hex_number_of p.0) are, address_back other low)

pub no_word : (line : List ℕ) (parts : List ℕ × List ℕ) (at : ℕ) → split_at 32 line ≡ Some parts
    → hex_number_of parts.0 ≡ Some at → IsWordOf at parts.1 None → (other w : ℕ) → other < 2 ^ 32 → w < 2 ^ 32
    → line ≢ line_of other w
no_word line parts at split is none other w low fits same =
    let are = parts_of line parts split other w same in
    let here = address_same line parts at split is other w low same in
    none w fits (ap (λ (p : List ℕ × List ℕ). p.1) are ∙ ap (λ (a : ℕ). word_text a w) here)

pub line_is : (line : List ℕ) (parts : List ℕ × List ℕ) (at w : ℕ) → split_at 32 line ≡ Some parts
    → hex_number_of parts.0 ≡ Some at → parts.1 ≡ word_text at w → line ≡ line_of at w
line_is line parts at w split is text =
    split_read 32 line parts split ∙ rw ((address_read parts.0 at is).0, text) refl

-- ---- the next line

module _ (bytes : List ℕ) (next : Option ℕ) where
  pub no_newline : split_at 10 bytes ≡ None → (at w : ℕ) (after : List ℕ) → w < 2 ^ 32 → bytes ≢ line_text at w ++ after
  no_newline none at w after fits same = cc (line_back at w after fits)

  module _ (parts : List ℕ × List ℕ) (split : split_at 10 bytes ≡ Some parts) where
    line_there : (at w : ℕ) (after : List ℕ) → w < 2 ^ 32 → bytes ≡ line_text at w ++ after → parts.0 ≡ line_of at w
    line_there at w after fits same =
        let are : parts ≡ (line_of at w, after) = cc (line_back at w after fits) in
        ap (λ (p : List ℕ × List ℕ). p.0) are

    pub not_a_line : IsLineOf parts.0 None → (at w : ℕ) (after : List ℕ) → at < 2 ^ 32 → w < 2 ^ 32
        → bytes ≢ line_text at w ++ after
    not_a_line none at w after low fits same = none at w low fits (line_there at w after fits same)

    pub elsewhere : (at w : ℕ) → at < 2 ^ 32 → w < 2 ^ 32 → parts.0 ≡ line_of at w → is_next next at ≡ false
        → (other v : ℕ) (after : List ℕ) → other < 2 ^ 32 → v < 2 ^ 32 → is_next next other ≡ true
        → bytes ≢ line_text other v ++ after
    elsewhere at w low fits line isnt other v after a b is same =
        let there = line_there other v after b same in
        let one = same_line at w [] other v [] low fits a b
        (line_split at w [] ∙ ap (λ (l : List ℕ). l ++ (10 ∷ [])) (sym line ∙ there) ∙ sym (line_split other v [])) in
        cc one.address

    pub here : (at w : ℕ) → parts.0 ≡ line_of at w → bytes ≡ line_text at w ++ parts.1
    here at w line = split_read 10 bytes parts split ∙ rw (line, line_split at w parts.1) refl

-- ---- the lines of some words

pub lines-append : (at : ℕ) (words others : List ℕ)
    → lines_from at (words ++ others) ≡ lines_from at words ++ lines_from (at + 4 * length words) others
lines-append at [] others = ap (λ (a : ℕ). lines_from a others) (omega arith)
lines-append at (w ∷ words) others =
    let behind : at + 4 + 4 * length words ≡ at + 4 * suc (length words) = omega arith in
    rw (lines-append (at + 4) words others, behind, append_assoc) refl

-- one line more
lines-push : (at : ℕ) (words : List ℕ) (w : ℕ)
    → lines_from at (words ++ w ∷ []) ≡ lines_from at words ++ line_text (at + 4 * length words) w
lines-push at words w = rw (lines-append at words (w ∷ []), append-nil (line_text (at + 4 * length words) w)) refl

pub lines-take : (at : ℕ) (words : List ℕ) (k : ℕ) → k < length words
    → lines_from at (take (k + 1) words) ≡ lines_from at (take k words) ++ line_text (at + 4 * k) (slice_index words k)
lines-take at words k within =
    let count : length (take k words) ≡ k = length-take-le k words (omega arith) in
    rw (take_more words k 0 within, lines-push at (take k words) (slice_index words k), count) refl

-- ---- a listing that is read

-- the address of the line behind these, if there are any
abbrev pub next_of : ℕ → List ℕ → Option ℕ
next_of start [] = None
next_of start (w ∷ words) = Some (start + 4 * length (w ∷ words))

-- these lines have been read, and this is left
pub record IsReading (bytes words : List ℕ) (next : Option ℕ) (rest : List ℕ) : Type 0 where
  pub start : ℕ
  pub listed : AreListed bytes start words rest
  pub next_is : next ≡ next_of start words

abbrev Fits : ℕ → Type 0
Fits w = w < 2 ^ 32

fit_one : (w : ℕ) → w < 2 ^ 32 → All Fits (w ∷ [])
fit_one w fits = All-cons Fits w [] fits (All-nil Fits)

All-front : (words others : List ℕ) → All Fits (words ++ others) → All Fits words
All-front [] others fit = All-nil Fits
All-front (w ∷ words) others fit =
    All-cons Fits w words (All-head Fits w (words ++ others) fit) (All-front words others (All-tail Fits w (words ++ others) fit))

last_fits : (words : List ℕ) (w : ℕ) → All Fits (words ++ w ∷ []) → w < 2 ^ 32
last_fits [] w fit = All-head Fits w [] fit
last_fits (v ∷ words) w fit = last_fits words w (All-tail Fits v (words ++ w ∷ []) fit)

-- a line more
pub read_more : (bytes words : List ℕ) (next : Option ℕ) (rest : List ℕ) → IsReading bytes words next rest
    → (at w : ℕ) (after : List ℕ) → at < 2 ^ 32 → w < 2 ^ 32 → is_next next at ≡ true → rest ≡ line_text at w ++ after
    → IsReading bytes (words ++ w ∷ []) (Some (at + 4)) after
read_more bytes [] next rest read at w after low fits is line =
    let aligned = eqb-true (at % 4) 0 (rw read.next_is at is) in
    record {
      start = at;
      listed = record {
        aligned = aligned;
        below = omega (arith, aligned, low);
        fit = fit_one w fits;
        is = read.listed.is ∙ line ∙ ap (λ (l : List ℕ). l ++ after) (sym (append-nil (line_text at w)));
      };
      next_is = ap Some (omega arith);
    }
read_more bytes (v ∷ words) next rest read at w after low fits is line =
    let all : List ℕ = v ∷ words in
    let here = eqb-true at (read.start + 4 * length all) (rw read.next_is at is) in
    let long : length (all ++ w ∷ []) ≡ length all + 1 = length-append all (w ∷ []) in
    record {
      start = read.start;
      listed = record {
        aligned = read.listed.aligned;
        below = omega (arith, here, long, low, read.listed.aligned);
        fit = All-append Fits all (w ∷ []) read.listed.fit (fit_one w fits);
        is = read.listed.is ∙ ap (λ (l : List ℕ). lines_from read.start all ++ l) (rw here at line)
            ∙ sym (append_assoc (lines_from read.start all) (line_text (read.start + 4 * length all) w) after)
            ∙ ap (λ (l : List ℕ). l ++ after) (sym (lines-push read.start all w));
      };
      next_is = ap Some (omega (arith, here, long));
    }

-- behind lines that were read stands one more
last_line : (bytes words : List ℕ) (start : ℕ) (rest : List ℕ) → bytes ≡ lines_from start words ++ rest → (w : ℕ)
    (after : List ℕ) → bytes ≡ lines_from start (words ++ w ∷ []) ++ after
    → rest ≡ line_text (start + 4 * length words) w ++ after
last_line bytes words start rest is w after more =
    append_cancel_left (lines_from start words) rest (line_text (start + 4 * length words) w ++ after)
    (sym is ∙ more ∙ rw (lines-push start words w, append_assoc) refl)

-- both begin with the same word's line
same_start : (bytes : List ℕ) (v : ℕ) (words : List ℕ) (start : ℕ) (rest : List ℕ) → AreListed bytes start (v ∷ words) rest
    → (from : ℕ) (others after : List ℕ) → AreListed bytes from (v ∷ others) after → from ≡ start
same_start bytes v words start rest one from others after other =
    (same_line from v (lines_from (from + 4) others ++ after) start v (lines_from (start + 4) words ++ rest)
    (omega (arith, other.below)) (All-head Fits v others other.fit) (omega (arith, one.below)) (All-head Fits v words one.fit)
    (sym (append_assoc (line_text from v) (lines_from (from + 4) others) after) ∙ sym other.is ∙ one.is
    ∙ append_assoc (line_text start v) (lines_from (start + 4) words) rest)).address

no_line_more : (bytes words : List ℕ) (next : Option ℕ) (rest : List ℕ) → IsReading bytes words next rest
    → IsNextLine rest next None → (from w : ℕ) (after : List ℕ) → ¬ AreListed bytes from (words ++ w ∷ []) after
no_line_more bytes [] next rest read none from w after more =
    none from w after (omega (arith, more.below)) (All-head Fits w [] more.fit)
    (rw read.next_is (eq-eqb (from % 4) 0 more.aligned))
    (sym read.listed.is ∙ more.is ∙ ap (λ (l : List ℕ). l ++ after) (append-nil (line_text from w)))
no_line_more bytes (v ∷ words) next rest read none from w after more =
    let all : List ℕ = v ∷ words in
    let start = read.start in
    let at : ℕ = start + 4 * length all in
    let same : from ≡ start = same_start bytes v words start rest read.listed from (words ++ w ∷ []) after more in
    let again = rw same at more in
    let long : length (all ++ w ∷ []) ≡ length all + 1 = length-append all (w ∷ []) in
    none at w after (omega (arith, again.below, long)) (last_fits all w again.fit)
    (rw read.next_is (eq-eqb at at refl))
    (last_line bytes all start rest read.listed.is w after again.is)

pub stopped : (bytes words : List ℕ) (next : Option ℕ) (rest : List ℕ) → IsReading bytes words next rest → rest ≢ []
    → IsNextLine rest next None → IsBadLine bytes (length words + 1)
stopped bytes words next rest read some none = record {
  start = read.start;
  words = words;
  rest = rest;
  listed = read.listed;
  number_is = refl;
  some = some;
  bad = no_line_more bytes words next rest read none;
}

-- ---- the listing of a text

record Behind (words lines : List ℕ) : Type 0 where
  word : ℕ
  others : List ℕ
  is : words ≡ lines ++ word ∷ others

-- where one list of lines begins another, its words begin the other's
split_off : (at : ℕ) (words : List ℕ) → at + 4 * length words ≤ 2 ^ 32 → All Fits words → (from : ℕ) (lines : List ℕ)
    → from + 4 * length lines ≤ 2 ^ 32 → All Fits lines → (rest : List ℕ) → rest ≢ []
    → lines_from at words ≡ lines_from from lines ++ rest → Behind words lines
split_off at [] a fit from [] b lit rest some same = absurd (some (sym same))
split_off at (w ∷ words) a fit from [] b lit rest some same = record { word = w; others = words; is = refl }
split_off at [] a fit from (v ∷ lines) b lit rest some same = absurd (cc same)
split_off at (w ∷ words) a fit from (v ∷ lines) b lit rest some same =
    let one : SameLine at w (lines_from (at + 4) words) from v (lines_from (from + 4) lines ++ rest) =
    same_line at w _ from v _ (omega (arith, a)) (All-head Fits w words fit) (omega (arith, b)) (All-head Fits v lines lit)
    (same ∙ append_assoc (line_text from v) (lines_from (from + 4) lines) rest) in
    let more = split_off (at + 4) words (omega (arith, a)) (All-tail Fits w words fit) (from + 4) lines (omega (arith, b))
    (All-tail Fits v lines lit) rest some one.after_is in
    record { word = more.word; others = more.others; is = cc (one.word, more.is) }

same_words : (at : ℕ) (words : List ℕ) → at + 4 * length words ≤ 2 ^ 32 → All Fits words → (from : ℕ) (lines : List ℕ)
    → from + 4 * length lines ≤ 2 ^ 32 → All Fits lines → lines_from at words ≡ lines_from from lines → lines ≡ words
same_words at [] a fit from [] b lit same = refl
same_words at (w ∷ words) a fit from [] b lit same = absurd (cc same)
same_words at [] a fit from (v ∷ lines) b lit same = absurd (cc same)
same_words at (w ∷ words) a fit from (v ∷ lines) b lit same =
    let one : SameLine at w (lines_from (at + 4) words) from v (lines_from (from + 4) lines) =
    same_line at w _ from v _ (omega (arith, a)) (All-head Fits w words fit) (omega (arith, b)) (All-head Fits v lines lit)
    same in
    cc (
      one.word,
      same_words (at + 4) words (omega (arith, a)) (All-tail Fits w words fit) (from + 4) lines (omega (arith, b))
          (All-tail Fits v lines lit) one.after_is,
    )

module _ (text : Words) (is : IsText text) (fit : All Fits text.words) where
  fits_below : text.start + 4 * length text.words ≤ 2 ^ 32
  fits_below = omega (arith, is.below)

  none_bad : (number : ℕ) → ¬ IsBadLine (listing_text text) number
  none_bad number bad =
      let behind = split_off text.start text.words fits_below fit bad.start bad.words bad.listed.below bad.listed.fit bad.rest
      bad.some bad.listed.is in
      let more : List ℕ = bad.words ++ behind.word ∷ [] in
      let parts : text.words ≡ more ++ behind.others = rw append_assoc behind.is in
      let size : length text.words ≡ length more + length behind.others = ap length parts ∙ length-append more behind.others in
      bad.bad text.start behind.word (lines_from (text.start + 4 * length more) behind.others) (record {
        aligned = is.aligned;
        below = omega (arith, size, fits_below);
        fit = All-front more behind.others (rw parts at fit);
        is = ap (lines_from text.start) parts ∙ lines-append text.start more behind.others;
      })

  pub reads_back : ReadsBack text
  reads_back = record {
    words = λ words listing. same_words text.start text.words fits_below fit listing.0 words listing.1.below listing.1.fit
        (listing.1.is ∙ append-nil (lines_from listing.0 words));
    good = none_bad;
  }

pub listings_back : ListingsReadBack
listings_back text is fit = reads_back text is fit
