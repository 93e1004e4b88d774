-- The account of each slider, and of all of them.
use Rattle.std.proofs.Common.{◌≡◌, ℕ, suc, ◌+◌, ◌-◌, ◌^◌, ◌<◌, ◌≤◌, Bool, true, false, List, [], ◌∷◌, ◌++◌, map, refl, sym, ap, ap₂, ◌∙◌, subst, arith, length, take, drop, eqb, ne_eqb}
use Rattle.std.specs.List.{flat_map, range_with_len, sum_by, All}
use Rattle.std.proofs.lemmas.List.{append-nil, take-append-drop, take-append-le, drop-append-le, length-append, length-drop}
use Rattle.std.proofs.lemmas.List.Concat.{flat_map-append}
use Rattle.std.proofs.lemmas.List.Elements.{All-nil}
use Rattle.std.proofs.lemmas.List.Sums.{sum_by-cons}
use Rattle.atomic_table.proofs.Lists.{at_map}
use Rattle.room_rule.specs.Use.{IsAt}
use Rattle.room_rule.proofs.Lists.{of_map}
use Rattle.work_pool.specs.Standing.{Standing, Handles}
use Rattle.bay_core.specs.Times.{times}
use Rattle.work_crew.specs.Crews.{IsNew, AreNew}
use Rattle.work_crew.specs.Keeping.{Keeping}
use Rattle.work_crew.proofs.Keeping.{standing, handled}
use Rattle.work_crew.specs.Settled.{given_by, done_by, AreSettled}
use Rattle.bay_core.proofs.Counts.{times-none, times-cons, times-append, times-flat, same_times}
use Rattle.work_crew.proofs.Counts.{sum-balance, sum-none, sum-map}
use Rattle.image_core.specs.Heap.{Heap}
use Rattle.image_slide.specs.Pieces.{pieces_of}
use Rattle.image_slide.specs.Jobs.{job_of, first_of, end_of, pieces_in, IsLater, Halves, DoesJob}
use Rattle.image_slide.specs.Parts.{IsSlid}
use Rattle.image_slide.specs.Sliding.{Sliding, jobs_first, pieces_first, start_of, IsOf, Accounts, Begins, AreSliders}
use Rattle.image_slide.specs.declared.starts.Start.{Start}
use Rattle.image_slide.specs.declared.pieces.Part.{Part}
use Rattle.image_slide.proofs.Halving.{job_pieces, in_more}

-- a number that is no job
pub no_job : (job : ℕ) (slid jobs : List ℕ) → end_of job ≤ first_of job → DoesJob job slid slid jobs jobs
no_job job slid jobs none =
    let count : end_of job - first_of job ≡ 0 = omega (arith, none) in
    let empty : pieces_in job ≡ [] = ap (range_with_len (first_of job)) count in
    record {
      now = [];
      more = [];
      slid_are = sym (append-nil slid);
      jobs_are = sym (append-nil jobs);
      parts = All-nil (IsLater job);
      pieces = λ p. omega (arith, ap (times p) empty, times-none p);
      few = omega arith;
    }

-- a job whose first piece is slid, and which is halved
pub one_job : (job : ℕ) (slid now jobs jobs_now : List ℕ) → now ≡ slid ++ first_of job ∷ []
    → Halves (first_of job) (end_of job) jobs jobs_now → DoesJob job slid now jobs jobs_now
one_job job slid now jobs jobs_now is h =
    let whole : job_of (first_of job) (end_of job) ≡ job = omega arith in
    record {
      now = first_of job ∷ [];
      more = h.more;
      slid_are = is;
      jobs_are = h.jobs_are;
      parts = subst (λ j. All (IsLater j) h.more) whole h.parts;
      pieces = λ p. omega (
        arith,
        h.pieces p,
        times-cons p (first_of job) [],
        times-cons p (first_of job) (flat_map pieces_in h.more),
        times-none p,
      );
      few = h.few;
    }

-- the account after a job
pub job_done : (p begun : ℕ) (slid now came came_now done : List ℕ) (job : ℕ) → DoesJob job slid now came came_now
    → times p slid + times p (flat_map pieces_in came) ≡ begun + times p (flat_map pieces_in done)
    → times p now + times p (flat_map pieces_in came_now) ≡ begun + times p (flat_map pieces_in (done ++ job ∷ []))
job_done p begun slid now came came_now done job d before =
    omega (
      arith,
      before,
      ap (times p) d.slid_are,
      times-append p slid d.now,
      ap (λ l. times p (flat_map pieces_in l)) d.jobs_are,
      ap (times p) (flat_map-append pieces_in came d.more),
      times-append p (flat_map pieces_in came) (flat_map pieces_in d.more),
      d.pieces p,
      in_more p done job,
    )

-- the job is handled
pub job_handled : (job at : ℕ) (kept kept_now : Keeping) (slid now came came_now done : List ℕ) → DoesJob job slid now came came_now
    → kept_now.items ≡ kept.items → at ≤ length came → length came - at + (end_of job - first_of job) ≤ kept_now.spare
    → Handles (λ x. IsLater job x) job (standing at came kept done) (standing at came_now kept_now (done ++ job ∷ []))
job_handled job at kept kept_now slid now came came_now done d same within room =
    handled (λ x. IsLater job x) job at came d.more came_now done kept kept_now d.jobs_are same within d.parts (omega (arith, d.few, room))

-- as contracts see it
pub accounts_so : (heap : Heap) (marks : List Bool) (ranks : List Bool) (whole : Bool) (slid : List ℕ) (at : ℕ) (came kept done : List ℕ) (spare : ℕ)
    → ((p : ℕ) → times p slid + times p (flat_map pieces_in came) ≡ times p (pieces_first heap whole) + times p (flat_map pieces_in done))
    → Accounts (record {
      heap = heap;
      marks = marks;
      ranks = ranks;
      whole = whole;
      slid = slid;
      stands = record { given = take at came; to_give = drop at came; kept_items = kept; spare = spare; done = done };
    })
accounts_so heap marks ranks whole slid at came kept done spare each = record {
  pieces = λ p. ap (λ l. times p slid + times p (flat_map pieces_in l)) (take-append-drop at came) ∙ each p;
}

-- the jobs with which one begins have the pieces with which it begins
pub first_account : (p : ℕ) (heap : Heap) (whole : Bool) → length heap.heads < 2 ^ 32
    → times p (flat_map pieces_in (jobs_first heap whole)) ≡ times p (pieces_first heap whole)
first_account p heap false few = refl
first_account p heap true few =
    let n = pieces_of (length heap.heads) in
    let small : n < 2 ^ 32 = omega (arith, few) in
    let all : n - 0 ≡ n = omega arith in
    ap (times p) (append-nil (pieces_in (job_of 0 n)) ∙ (job_pieces 0 n small ∙ ap (range_with_len 0) all))

-- pieces that were slid by a work on this image
pub slid_of : (heap : Heap) (marks : List Bool) (ranks : List Bool) (m : Sliding) (parts : List Part) → IsOf heap marks ranks m
    → All (IsSlid m.heap m.marks m.ranks) parts → All (IsSlid heap marks ranks) parts
slid_of heap marks ranks m parts of all =
    subst (λ (z : Heap × List Bool × List Bool). All (IsSlid z.0 z.1 z.2) parts) (λ k. (of.0 k, of.1 k, of.2 k)) all

-- new sliders are new works
pub sliders_new : (heap : Heap) (marks : List Bool) (ranks : List Bool) (many : ℕ) (works : List Sliding)
    → AreSliders heap marks ranks many works → AreNew (map (λ m. m.stands) works)
sliders_new heap marks ranks many works are = record {
  each = λ i s at.
      let m = of_map (λ n. n.stands) works i s at in
      subst IsNew m.2 (are.each i m.0 m.1).new;
  none = λ i s at some.
      let m = of_map (λ n. n.stands) works i s at in
      subst (λ (z : Standing). z.to_give ≡ []) m.2 ((are.each i m.0 m.1).none (ne_eqb i 0 (λ e. omega (arith, e, some))));
}

-- what is made of the members of several lists
flat_flat : {A : Type 0} (p : ℕ) (g : A → List ℕ) (xs : List A)
    → times p (flat_map pieces_in (flat_map g xs)) ≡ sum_by (λ x. times p (flat_map pieces_in (g x))) xs
flat_flat p g [] = refl
flat_flat p g (x ∷ xs) =
    ap (times p) (flat_map-append pieces_in (g x) (flat_map g xs))
    ∙ (times-append p (flat_map pieces_in (g x)) (flat_map pieces_in (flat_map g xs))
    ∙ (ap (λ k. times p (flat_map pieces_in (g x)) + k) (flat_flat p g xs)
    ∙ sym (sum_by-cons (λ y. times p (flat_map pieces_in (g y))) x xs)))

-- the pieces with which one begins that was made so
abbrev first_of_start : ℕ → Start → ℕ
first_of_start p s = times p (pieces_first s.image s.whole)

-- the first begins with all pieces, and the others with none
module _ (heap : Heap) (marks : List Bool) (ranks : List Bool) where
  others : (p : ℕ) (works : List Sliding)
      → ((i : ℕ) (m : Sliding) → IsAt works i m → Begins heap marks ranks false m)
      → sum_by (λ m. first_of_start p (start_of m)) works ≡ 0
  others p works each =
      sum-none (λ m. first_of_start p (start_of m)) works
      (λ i m at. ap (first_of_start p) (each i m at).start ∙ times-none p)

  begun_in_all : (p many : ℕ) (works : List Sliding) → 1 ≤ many → AreSliders heap marks ranks many works
      → sum_by (λ m. first_of_start p (start_of m)) works ≡ times p (range_with_len 0 (pieces_of (length heap.heads)))
  begun_in_all p many [] some are = absurd (omega (arith, some, are.long))
  begun_in_all p many (m ∷ works) some are =
      let rest = others p works (λ i n at.
      subst (λ b. Begins heap marks ranks b n) (ne_eqb (suc i) 0 (λ e. omega (arith, e))) (are.each (suc i) n at)) in
      let head : first_of_start p (start_of m) ≡ times p (range_with_len 0 (pieces_of (length heap.heads))) =
      ap (first_of_start p) (are.each 0 m refl).start in
      omega (arith, sum_by-cons (λ n. first_of_start p (start_of n)) m works, rest, head)

  module _ (many : ℕ) (was is : List Sliding) (left : List ℕ) (some : 1 ≤ many) (sliders : AreSliders heap marks ranks many was)
      (made : map (λ m. start_of m) is ≡ map (λ m. start_of m) was) where
    -- each of them is a work on this image
    pub is_of : (i : ℕ) (m : Sliding) → IsAt is i m → IsOf heap marks ranks m
    is_of i m at =
        let old = of_map (λ n. start_of n) was i (start_of m)
        (subst (λ (l : List Start). IsAt l i (start_of m)) made (at_map (λ n. start_of n) is i m at)) in
        let same : start_of m ≡ record { image = heap; marks = marks; ranks = ranks; whole = eqb i 0 } = sym old.2 ∙ (sliders.each i old.0 old.1).start in (
          ap (λ (s : Start). s.image) same,
          ap (λ (s : Start). s.marks) same,
          ap (λ (s : Start). s.ranks) same,
        )

    begun_now : (p : ℕ) → sum_by (λ m. times p (pieces_first m.heap m.whole)) is ≡ times p (range_with_len 0 (pieces_of (length heap.heads)))
    begun_now p =
        sym (sum-map (first_of_start p) (λ m. start_of m) is)
        ∙ (ap (sum_by (first_of_start p)) made
        ∙ (sum-map (first_of_start p) (λ m. start_of m) was ∙ begun_in_all p many was some sliders))

    module _ (settled : AreSettled (map (λ m. m.stands) is) left) (accounts : (i : ℕ) (m : Sliding) → IsAt is i m → Accounts m) where
      one_account : (p i : ℕ) (m : Sliding) → IsAt is i m
          → times p m.slid + times p (flat_map pieces_in m.stands.given) ≡ times p (pieces_first m.heap m.whole) + times p (flat_map pieces_in m.stands.done)
      one_account p i m at =
          let none = (settled.idle i m.stands (at_map (λ n. n.stands) is i m at)).0 in
          let all : m.stands.given ++ m.stands.to_give ≡ m.stands.given = ap (λ l. m.stands.given ++ l) none ∙ append-nil m.stands.given in
          ap (λ l. times p m.slid + times p (flat_map pieces_in l)) (sym all) ∙ (accounts i m at).pieces p

      pieces_given : (p : ℕ) → times p (flat_map pieces_in (given_by (map (λ m. m.stands) is))) ≡ sum_by (λ m. times p (flat_map pieces_in m.stands.given)) is
      pieces_given p =
          flat_flat p (λ s. s.given) (map (λ m. m.stands) is)
          ∙ sum-map (λ s. times p (flat_map pieces_in s.given)) (λ m. m.stands) is

      pieces_done : (p : ℕ) → times p (flat_map pieces_in (done_by (map (λ m. m.stands) is))) ≡ sum_by (λ m. times p (flat_map pieces_in m.stands.done)) is
      pieces_done p =
          flat_flat p (λ s. s.done) (map (λ m. m.stands) is)
          ∙ sum-map (λ s. times p (flat_map pieces_in s.done)) (λ m. m.stands) is

      -- Each piece was slid once by one of them, or is left once.
      pub all_once : (p : ℕ) → times p (flat_map (λ m. m.slid) is) + times p (flat_map pieces_in left)
          ≡ times p (range_with_len 0 (pieces_of (length heap.heads)))
      all_once p =
          let done = done_by (map (λ m. m.stands) is) in let given = given_by (map (λ m. m.stands) is) in
          let jobs : times p (flat_map pieces_in (done ++ left)) ≡ times p (flat_map pieces_in given) =
          same_times pieces_in (done ++ left) given (λ n. times-append n done left ∙ settled.often n) p in
          omega (
            arith,
            jobs,
            ap (times p) (flat_map-append pieces_in done left),
            times-append p (flat_map pieces_in done) (flat_map pieces_in left),
            pieces_given p,
            pieces_done p,
            times-flat p (λ m. m.slid) is,
            sum-balance (λ m. times p m.slid) (λ m. times p (flat_map pieces_in m.stands.given))
                (λ m. times p (pieces_first m.heap m.whole)) (λ m. times p (flat_map pieces_in m.stands.done)) is (λ i m at. one_account p i m at),
            begun_now p,
          )
