-- The counts of a profile are exact.
use Rattle.eel.proofs.Common.{◌≡◌, ℕ, ◌-◌, List, [], refl, ap, sym, ◌∙◌, subst, arith, Option, None, Ok, get_or-map, length-map, Notes, notes_of, AreBytes, Graph, Dump, Plan, AreCounts, HasGraph, HaveRunsAlike, State, visits_by, pages_of, IsUntouched, AreArguments, CountsOffTree, counter_in, IsProfiled, IsExact, counts_are_exact, start_of, dump_at, AreCells, plan_with, IsOfRun, IsProfile, view_of, EditsAreProfiles, IsMarkedProfile, AreExact, AreOfWholeRuns, IsProfileOf, profile_plan}
use Rattle.exact_counts.proofs.Clear.{clear_runs_are_untouched, counts_of_ended_runs_are_exact}
use Rattle.exact_counts.specs.Clear.{IsClear}
use Rattle.edit_core.specs.Faithful.{IsFaithful}
use Rattle.exact_counts.proofs.Trees.{trees_make_profiles}

-- counters off a spanning tree are a profile's
off_tree : (graph : Graph) (marks weights : List ℕ) (cells : List (Option ℕ)) → AreCells graph weights cells
    → CountsOffTree 2 graph (plan_with marks cells)
off_tree graph marks weights cells are =
    trees_make_profiles 2 graph (plan_with marks cells) cells (record {
      kind = refl;
      count = refl;
      size = length-map cells (counter_in 2) ∙ are.size;
      len = are.size;
      numbered = are.numbered;
      tree = are.spans;
      snips = λ e inside. get_or-map (counter_in 2) cells e None [] (omega (arith, inside, are.size));
    })

-- a file has one list of notes
pub one_notes : (file : List ℕ) (one other : Notes) → notes_of file ≡ Ok one → notes_of file ≡ Ok other → other ≡ one
one_notes file one other first second = cc (first, second)

-- the original touches no page of them
pub none_touched : (original : List ℕ) (plan : Plan) (file : List ℕ) (notes : Notes) → IsFaithful original plan file
    → notes_of file ≡ Ok notes → (args : List (List ℕ)) (input : List ℕ) (m : ℕ) → AreArguments args → AreBytes input
    → IsClear notes (start_of original args input) (start_of file args input) m
    → IsUntouched (pages_of notes) (start_of original args input) (visits_by notes (start_of file args input) m)
none_touched original plan file notes faithful read args input m given fed clear =
    let s0 : State = start_of original args input in
    let t0 : State = start_of file args input in
    subst (λ (n : Notes). IsClear n s0 t0 m → IsUntouched (pages_of n) s0 (visits_by n t0 m))
    (one_notes file notes faithful.notes read faithful.whole.reads)
    (clear_runs_are_untouched original plan file args input m faithful given fed) clear

pub is_profiled : (original : List ℕ) (plan : Plan) (file : List ℕ) (notes : Notes)
    → IsProfile original plan file notes → AreBytes original → notes_of file ≡ Ok notes
    → IsProfiled original plan file notes
is_profiled original plan file notes profile bytes read =
    let faithful = profile.faithful in
    let same = one_notes file notes faithful.notes read faithful.whole.reads in
    record {
      sound = profile.sound;
      bytes = bytes;
      counters = profile.counters;
      graph = subst (HasGraph original plan) same faithful.graph;
      runs = subst (HaveRunsAlike original plan file) same faithful.runs;
    }

pub exact_in : (file : List ℕ) (notes : Notes) (dump : Dump) → notes_of file ≡ Ok notes
    → (original : List ℕ) (args : List (List ℕ)) (input : List ℕ) (m : ℕ)
    → (run : IsOfRun original file notes dump args input m)
    → IsExact original run.plan notes (start_of original args input)
    (dump_at notes (start_of file args input) m) (visits_by notes (start_of file args input) m - 1)
exact_in file notes dump read original args input m run =
    counts_are_exact original run.plan file notes args input m
    (is_profiled original run.plan file notes run.profile run.bytes read) run.arguments run.given
    (none_touched original run.plan file notes run.profile.faithful read args input m run.arguments run.given run.clear)
    run.few

pub are_exact : (file : List ℕ) (notes : Notes) (dump : Dump) (counts : List ℕ) → notes_of file ≡ Ok notes
    → AreCounts notes dump counts → AreExact file notes dump counts
are_exact file notes dump counts read are = λ original args input m run e inside.
    let exact = exact_in file notes dump read original args input m run in
    exact.counts counts (subst (λ (d : Dump). AreCounts notes d counts) run.is are) e inside

pub are_of_whole_runs : (file : List ℕ) (notes : Notes) (dump : Dump) (counts : List ℕ) → notes_of file ≡ Ok notes
    → AreCounts notes dump counts → AreOfWholeRuns file notes dump counts
are_of_whole_runs file notes dump counts read are = λ original args input n m run both e inside.
    let s0 = start_of original args input in
    let t0 = start_of file args input in
    let faithful = run.profile.faithful in
    let same : faithful.notes ≡ notes = one_notes file notes faithful.notes read faithful.whole.reads in
    let exact : IsExact original run.plan notes s0 (dump_at notes t0 m) n =
    rw same at
    (counts_of_ended_runs_are_exact original run.plan file args input n m run.profile.sound run.bytes faithful
    (rw same run.profile.counters) run.arguments run.given
    (subst (λ (n : Notes). IsClear n s0 t0 m) (sym same) run.clear) both (rw same run.few)) in
    exact.counts counts (subst (λ (d : Dump). AreCounts notes d counts) run.is are) e inside

-- ---- a file that was made with counters is a profile, and its notes have version 2

is_profile : (marks weights original file : List ℕ) (notes : Notes) → (profile : IsMarkedProfile marks weights original file)
    → notes_of file ≡ Ok notes → (notes.version ≡ 2) × IsProfile original (plan_with marks profile.cells) file notes
is_profile marks weights original file notes profile read =
    let faithful = profile.made.faithful in
    let version : notes.version ≡ 2 =
    ap (λ (n : Notes). n.version) (one_notes file faithful.notes notes faithful.whole.reads read) ∙ profile.made.version in (
      version,
      record {
        sound = profile.made.taken.sound;
        counters = subst (λ (v : ℕ). CountsOffTree v (view_of original marks).graph (plan_with marks profile.cells)) (sym version)
            (off_tree (view_of original marks).graph marks weights profile.cells profile.are);
        faithful = profile.made.faithful;
      },
    )

pub edits_are_profiles : EditsAreProfiles
edits_are_profiles marks weights original file notes limit bytes profile read =
    is_profile marks weights original file notes profile read

pub edit_is_profiled : (weights original file : List ℕ) (notes : Notes) (profile : IsProfileOf weights original file)
    → AreBytes original → notes_of file ≡ Ok notes → IsProfiled original (profile_plan profile.cells) file notes
edit_is_profiled weights original file notes profile bytes read =
    is_profiled original (profile_plan profile.cells) file notes
    (is_profile [] weights original file notes profile read).1 bytes read
