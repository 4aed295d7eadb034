-- What trying entries comes to, in order.
use Rattle.std.proofs.Common.{◌≡◌, ℕ, suc, ◌+◌, List, [], ◌∷◌, ◌++◌, map, length, take, drop, Some, None, Ok, Err, Option, Result, sym, refl, ap, ◌∙◌, subst, add-zero, arith}
use Rattle.faults.specs.declared.Fault.{Fault}
use Rattle.std.specs.List.{AllByRecursion}
use Rattle.rules.specs.Tables.{Tables, Lawful}
use Rattle.sources.specs.Readings.{WithinLimits}
use Rattle.sources.specs.Within.{reported-within, physical-within, economic-within, overseas-within, offset-within}
use Rattle.entries.specs.Entries.{PlainEntry, PlainMethod, PlainPortfolio, report, bill, sector_mean, method_meaning, entry_meaning}
use Rattle.entries.specs.Guides.{guide_tables, guide-lawful}
use Rattle.entries.specs.Stops.{stop_at}
use Rattle.entries.specs.declared.investee.PostEntry.{PostEntry}
use Rattle.entries.specs.declared.stop.Stop.{Stop}
use Rattle.plain.proofs.EveryRun.{every-run-keeps}
use Rattle.plain.specs.EveryRun.{HoldsWhole}
use Rattle.plain.specs.Kept.{KeptByEveryRun}
use Rattle.plain.specs.PlainBook.{PlainBook, empty}
use Rattle.plain.specs.Refused.{declined}
use Rattle.plain.specs.Runs.{after, run, unless, ReachedByARun}
use Rattle.plain.specs.Steps.{Step, WithinSourceLimits}
use Rattle.portfolio.specs.Layout.{layout_of}
use Rattle.portfolio.specs.Refused.{Refused, RefusesRightly}
use Rattle.portfolio.specs.Text.{AcceptsTexts, IsTextOf}
use Rattle.loading.specs.Loading.{EnteredInOrder, LoadsPortfolios, entered, entered_from, loading_of}
use Rattle.loading.specs.Trying.{Outcome, outcome, tried, Ended, all_accepted, next_declined, TriedInOrder, entries_of, first_entry_line, opening, posting}

none_before : {X : Type 0} (before : List X) (c : X) (rest : List X) → ◌≡◌ {A = List X} [] (before ++ c ∷ rest) → ⊥
none_before [] c rest e = omega (arith, ap length e)
none_before (b ∷ before) c rest e = omega (arith, ap length e)

-- the first is declined
stopped-at-once : (t : Tables) (line : ℕ) (p : PlainBook) (c : Step) (cs : List Step) (f : Fault) → declined t p c ≡ Some f → TriedInOrder t line p (c ∷ cs) (outcome p (Some (stop_at line f)))
stopped-at-once t line p c cs f is =
    record {
      accepted = 0;
      book_of_these = refl;
      each_accepted = λ before c rest e. absurd (none_before before c rest e);
      ended = subst (λ n. Ended t p (c ∷ cs) n (Some (stop_at line f))) (sym (add-zero line)) (next_declined c cs line f is);
    }

-- the first is accepted, and the others are tried after it
goes_on : (t : Tables) (line : ℕ) (p : PlainBook) (c : Step) (cs : List Step) (o : Outcome) → declined t p c ≡ None → TriedInOrder t (suc line) (after t p c) cs o → TriedInOrder t line p (c ∷ cs) o
goes_on t line p c cs o ok r =
    record {
      accepted = suc r.accepted;
      book_of_these = r.book_of_these;
      each_accepted = each;
      ended = subst (λ n. Ended t o.book (drop r.accepted cs) n o.stop) (omega arith) r.ended;
    }
  where
    each : (before : List Step) (d : Step) (rest : List Step) → c ∷ take r.accepted cs ≡ before ++ d ∷ rest → declined t (run t p before) d ≡ None
    each [] d rest e = let same : d ≡ c = cc in ap (declined t p) same ∙ ok
    each (b ∷ before) d rest e =
        let same : b ≡ c = cc in
        let others : take r.accepted cs ≡ before ++ d ∷ rest = cc in
        ap (λ x. declined t (run t (after t p x) before) d) same ∙ r.each_accepted before d rest others

pub tried_in_order : (t : Tables) (line : ℕ) (p : PlainBook) (cs : List Step) → TriedInOrder t line p cs (tried t line p cs)
unfolding tried
tried_in_order t line p [] =
    record {
      accepted = 0;
      book_of_these = refl;
      each_accepted = λ before c rest e. absurd (none_before before c rest e);
      ended = all_accepted (line + 0);
    }
tried_in_order t line p (c ∷ cs) = by (declined t p c) refl (tried_in_order t (suc line) (after t p c) cs)
  where
    by : (d : Option Fault) → declined t p c ≡ d → TriedInOrder t (suc line) (after t p c) cs (tried t (suc line) (after t p c) cs) → TriedInOrder t line p (c ∷ cs) (unless d (tried t (suc line) (after t p c) cs) (λ f. outcome p (Some (stop_at line f))))
    by None e rest = goes_on t line p c cs (tried t (suc line) (after t p c) cs) e rest
    by (Some f) e rest = stopped-at-once t line p c cs f e

-- ---- the entries of a portfolio

entry-within : (e : PlainEntry) → WithinLimits (entry_meaning e)
entry-within e = offset-within e.offsets _ (overseas-within e.overseas _ (method-within e.method))
  where
    method-within : (m : PlainMethod) → WithinLimits (method_meaning m)
    method-within (report kilograms mark) = reported-within kilograms mark
    method-within (bill terms) = physical-within terms
    method-within (sector_mean output mean) = economic-within output mean

openings-within : (es : List PlainEntry) (rest : List Step) → AllByRecursion WithinSourceLimits rest → AllByRecursion WithinSourceLimits (map opening es ++ rest)
openings-within [] rest all = all
openings-within (e ∷ es) rest all = (entry-within e, openings-within es rest all)

postings-within : (qs : List PostEntry) → AllByRecursion WithinSourceLimits (map posting qs)
postings-within [] = tt
postings-within (q ∷ qs) = (tt, postings-within qs)

pub entries-within : (f : PlainPortfolio) → AllByRecursion WithinSourceLimits (entries_of f)
entries-within f = openings-within f.investees (map posting f.posts) (postings-within f.posts)

pub entered-in-order : (f : PlainPortfolio) → EnteredInOrder f (entered f)
entered-in-order f =
    let t = guide_tables f.guide in
    let order = tried_in_order t first_entry_line empty (entries_of f) in
    let within = entries-within f in
    record {
      under_its_guide = refl;
      tried_in_order = order;
      holds = subst (HoldsWhole t) (sym order.book_of_these) (every-run-keeps.from_the_start t (guide-lawful f.guide) (entries_of f) within order.accepted);
    }

-- ---- a portfolio on any book

pub in-order : (t : Tables) (p : PlainBook) (f : PlainPortfolio) (o : Outcome) → o ≡ tried t first_entry_line p (entries_of f) → TriedInOrder t first_entry_line p (entries_of f) o
in-order t p f o is = subst (TriedInOrder t first_entry_line p (entries_of f)) (sym is) (tried_in_order t first_entry_line p (entries_of f))

pub whole-after : (t : Tables) → Lawful t → (p : PlainBook) → KeptByEveryRun p → (f : PlainPortfolio) (o : Outcome) → TriedInOrder t first_entry_line p (entries_of f) o → ReachedByARun t p → HoldsWhole t o.book
whole-after t lawful p kept f o order reached =
    subst (HoldsWhole t) (sym order.book_of_these) (((every-run-keeps.going_on t lawful p kept (entries_of f) (entries-within f)).of_a_reached_book reached).0 order.accepted)

-- ---- whole files

loads-from : (bytes : List ℕ) (r : Result PlainPortfolio Stop) → layout_of bytes ≡ r → AcceptsTexts bytes r → RefusesRightly bytes r → LoadsPortfolios bytes (entered_from r)
loads-from bytes (Ok f) laid accepts refuses =
    record {
      of_a_portfolio = λ g is. let same : f ≡ g = cc ((accepts g).1 is) in subst (λ h. EnteredInOrder h (entered f)) same (entered-in-order f);
      of_no_other = (f, (accepts f).0 refl, entered-in-order f);
      refused = λ s. (λ is. let z : ◌≡◌ {A = ℕ} 0 1 = cc in absurd (omega arith), λ stop. let z : ◌≡◌ {A = ℕ} 0 1 = cc ((refuses s).1 stop) in absurd (omega arith));
    }
loads-from bytes (Err s) stops accepts refuses =
    record {
      of_a_portfolio = λ g is. none g is;
      of_no_other = (stops, none);
      refused = λ t. (λ is. let same : s ≡ t = cc in subst (Refused bytes) same ((refuses s).0 refl), λ stop. let same : s ≡ t = cc ((refuses t).1 stop) in ap Err same);
    }
  where
    none : (g : PlainPortfolio) → IsTextOf g bytes → ⊥
    none g is = let z : ◌≡◌ {A = ℕ} 0 1 = cc ((accepts g).1 is) in absurd (omega arith)

pub loads-portfolios : (bytes : List ℕ) → AcceptsTexts bytes (layout_of bytes) → RefusesRightly bytes (layout_of bytes) → LoadsPortfolios bytes (loading_of bytes)
loads-portfolios bytes accepts refuses = loads-from bytes (layout_of bytes) refl accepts refuses
