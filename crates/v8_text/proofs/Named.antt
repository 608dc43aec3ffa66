-- The names of instructions.
use Rattle.v8_text.proofs.Common.{◌≡◌, ℕ, ◌<◌, Bool, true, false, if◌then◌else◌, List, [], ◌∷◌, get_or, map, codes, Option, Some, None, inl, inr, refl, ap, sym, ◌∙◌, arith, find, range_with_len, option_map, bytes_eq, get_or-map-range_with_len, nat_tests, chosen, mapped, AluOp, LoadKind, StoreKind, has_form, Name, alu_text, branch_text, load_text, store_text, trap_text, all_loads, all_stores, first_of, joined_of, leaving, name_of, setting, single_of}
use Rattle.v8_text.specs.declared.names.Name.TheVariants as n
use Rattle.v8_text.proofs.Found.{either_of, text_is}

abbrev pub name_text : Name → List ℕ
name_text n.Sethi = codes "sethi"
name_text (n.Branch cond annul) = branch_text cond annul
name_text n.Call = codes "call"
name_text (n.Alu op cc) = alu_text op cc
name_text n.ReadY = codes "rd"
name_text n.WriteY = codes "wr"
name_text n.Jmpl = codes "jmpl"
name_text (n.Ticc cond) = trap_text cond
name_text n.Flush = codes "flush"
name_text n.Save = codes "save"
name_text n.Restore = codes "restore"
name_text (n.Load kind) = load_text kind
name_text (n.Store kind) = store_text kind
name_text n.Ldstub = codes "ldstub"
name_text n.Swap = codes "swap"

-- ---- names that are written are read

module _ (text : ℕ → List ℕ) (make : ℕ → Name)
    (all : map (λ cond. name_of (text cond)) (range_with_len 0 16) ≡ map (λ cond. Some (make cond)) (range_with_len 0 16)) where
  each_condition : (cond : ℕ) → cond < 16 → name_of (text cond) ≡ Some (make cond)
  each_condition cond low =
      sym (get_or-map-range_with_len (λ k. name_of (text k)) 0 16 cond cond None low (omega arith))
      ∙ ap (λ (found : List (Option Name)). get_or found cond None) all
      ∙ get_or-map-range_with_len (λ k. Some (make k)) 0 16 cond cond None low (omega arith)

all_branches : map (λ cond. name_of (branch_text cond false)) (range_with_len 0 16)
    ≡ map (λ cond. Some (n.Branch cond false)) (range_with_len 0 16)
unfolding name_of joined_of single_of
all_branches = refl

all_annulled : map (λ cond. name_of (branch_text cond true)) (range_with_len 0 16)
    ≡ map (λ cond. Some (n.Branch cond true)) (range_with_len 0 16)
unfolding name_of joined_of single_of
all_annulled = refl

all_traps : map (λ cond. name_of (trap_text cond)) (range_with_len 0 16)
    ≡ map (λ cond. Some (n.Ticc cond)) (range_with_len 0 16)
unfolding name_of joined_of single_of
all_traps = refl

pub branch_back : (cond : ℕ) (annul : Bool) → cond < 16 → name_of (branch_text cond annul) ≡ Some (n.Branch cond annul)
branch_back cond false low =
    each_condition (λ k. branch_text k false) (λ k. n.Branch k false) all_branches cond low
branch_back cond true low = each_condition (λ k. branch_text k true) (λ k. n.Branch k true) all_annulled cond low

pub trap_back : (cond : ℕ) → cond < 16 → name_of (trap_text cond) ≡ Some (n.Ticc cond)
trap_back cond low = each_condition trap_text n.Ticc all_traps cond low

pub alu_back : (op : AluOp) (cc : Bool) → has_form op cc ≡ true → name_of (alu_text op cc) ≡ Some (n.Alu op cc)
unfolding name_of joined_of single_of
alu_back op cc has = grind arith

pub load_back : (kind : LoadKind) → name_of (load_text kind) ≡ Some (n.Load kind)
unfolding name_of joined_of single_of
load_back kind = grind arith

pub store_back : (kind : StoreKind) → name_of (store_text kind) ≡ Some (n.Store kind)
unfolding name_of joined_of single_of
store_back kind = grind arith

-- ---- and no others

found_in : {A : Type 0} (test : A → Bool) (xs : List A) (x : A) → find test xs ≡ Some x → test x ≡ true
found_in test [] x h = absurd (cc h)
found_in test (y ∷ ys) x h = grind (arith, nat_tests, found_in test ys x)

-- a name that was found among some
among : {A : Type 0} (text : A → List ℕ) (make : A → Name) (xs : List A) (word : List ℕ) (name : Name)
    → ((x : A) → name_text (make x) ≡ text x)
    → option_map make (find (λ x. bytes_eq word (text x)) xs) ≡ Some name → word ≡ name_text name
among text make xs word name spelled h =
    let found = mapped make (find (λ x. bytes_eq word (text x)) xs) name h in
    text_is word (text found.got) (found_in (λ x. bytes_eq word (text x)) xs found.got found.is)
    ∙ sym (spelled found.got) ∙ ap name_text found.same

joined_read : (word : List ℕ) (name : Name) → joined_of word ≡ Some name → word ≡ name_text name
unfolding joined_of
joined_read word name h =
    one _ _ h (among (λ op. alu_text op false) (λ op. n.Alu op false) leaving word name (λ op. refl))
    (λ h. one _ _ h (among (λ op. alu_text op true) (λ op. n.Alu op true) setting word name (λ op. refl))
    (λ h. one _ _ h (among (λ k. branch_text k false) (λ k. n.Branch k false) (range_with_len 0 16) word name (λ k. refl))
    (λ h. one _ _ h (among (λ k. branch_text k true) (λ k. n.Branch k true) (range_with_len 0 16) word name (λ k. refl))
    (λ h. one _ _ h (among trap_text n.Ticc (range_with_len 0 16) word name (λ k. refl))
    (λ h. one _ _ h (among load_text n.Load all_loads word name (λ kind. refl))
    (among store_text n.Store all_stores word name (λ kind. refl)))))))
  where
    one : (a b : Option Name) → first_of a b ≡ Some name → (a ≡ Some name → word ≡ name_text name)
        → (b ≡ Some name → word ≡ name_text name) → word ≡ name_text name
    one (Some x) b is first rest = first is
    one None b is first rest = rest is

-- one name that is asked for, or another
asked : (word text : List ℕ) (here name : Name) (others : Option Name) → name_text here ≡ text
    → (if bytes_eq word text then Some here else others) ≡ Some name → (others ≡ Some name → word ≡ name_text name)
    → word ≡ name_text name
asked word text here name others spelled h rest =
    elim (chosen (bytes_eq word text) (Some here) others name h) as (λ _. word ≡ name_text name) [
      | inl is ↦ let same : here ≡ name = cc is.1 in text_is word text is.0 ∙ sym spelled ∙ ap name_text same
      | inr is ↦ rest is.1
    ]

single_read : (word : List ℕ) (name : Name) → single_of word ≡ Some name → word ≡ name_text name
unfolding single_of
single_read word name h =
    asked word _ n.Sethi name _ refl h (λ h. asked word _ n.Call name _ refl h (λ h. asked word _ n.Jmpl name _ refl h
    (λ h. asked word _ n.Save name _ refl h (λ h. asked word _ n.Restore name _ refl h
    (λ h. asked word _ n.ReadY name _ refl h (λ h. asked word _ n.WriteY name _ refl h
    (λ h. asked word _ n.Flush name _ refl h (λ h. asked word _ n.Ldstub name _ refl h
    (λ h. asked word _ n.Swap name _ refl h (λ h. absurd (cc h)))))))))))

pub name_read : (word : List ℕ) (name : Name) → name_of word ≡ Some name → word ≡ name_text name
unfolding name_of
name_read word name h =
    elim (either_of (joined_of word) (single_of word) name h) as (λ _. word ≡ name_text name) [
      | inl is ↦ joined_read word name is
      | inr is ↦ single_read word name is
    ]
