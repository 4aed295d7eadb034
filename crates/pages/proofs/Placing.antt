-- A book's page where it was written.
use Rattle.std.proofs.Common.{◌≡◌, ◌+◌, ◌-◌, ◌≤◌, List, ◌++◌, length, take, drop, Some, None, Option, refl, ap, ◌∙◌, subst, arith}
use Rattle.std.specs.Option.{IsSome}
use Rattle.rules.specs.Tables.{Tables, Lawful}
use Rattle.lines.specs.declared.writing.Writer.{Writer}
use Rattle.lines.specs.Writing.{Wrote}
use Rattle.plain.specs.declared.answers.BookTotal.{BookTotal}
use Rattle.plain.specs.declared.answers.InvesteeAccount.{InvesteeAccount}
use Rattle.plain.specs.declared.answers.Kilograms.{Kilograms}
use Rattle.plain.specs.Kept.{KeptByEveryRun}
use Rattle.plain.specs.Limits.{most_investees}
use Rattle.plain.specs.PlainBook.{PlainBook}
use Rattle.plain.specs.Readings.{accounts_of, sheets_of, book_total_of}
use Rattle.book.specs.Listed.{listed}
use Rattle.pages.specs.Page.{given, page_of, page_text}
use Rattle.pages.specs.Placed.{room, placed}
use Rattle.pages.proofs.Lengths.{room-suffices}
use Rattle.pages.proofs.Rows.{given-listed}

-- the readings of a book, as its page takes them
module _ (t : Tables) (lawful : Lawful t) (p : PlainBook) (kept : KeptByEveryRun p) (accounts : List (Option InvesteeAccount)) (sheets : List (Option Kilograms)) (total : BookTotal)
    (are-accounts : accounts ≡ listed most_investees (accounts_of t p)) (are-sheets : sheets ≡ sheets_of t p) (is-total : total ≡ book_total_of t p) where
  held : given accounts ≡ accounts_of t p
  held = ap given are-accounts ∙ given-listed (most_investees - length (accounts_of t p)) (accounts_of t p)

  same-page : page_of (given accounts) sheets total.all.kilograms.emissions ≡ page_text t p
  unfolding page_text
  same-page = λ i. page_of (held i) (are-sheets i) (is-total i).all.kilograms.emissions

  -- what a writer at the start of a buffer with room for every page holds then
  pub record Page (was now : Writer) (r : Option (Unit {0})) : Type 0 where
    pub some : IsSome r
    pub bytes : now.at ≡ length (page_text t p)
    pub buffer_after : now.buffer.now ≡ placed (page_text t p) was.buffer.now
    pub short : now.at ≤ room

  pub page-written : {was now : Writer} (r : Option (Unit {0})) → was.at ≡ 0 → room ≤ length was.buffer.now → Wrote was (page_of (given accounts) sheets total.all.kilograms.emissions) now r → Page was now r
  page-written {was} {now} None start long wrote =
      let none = (subst (λ text. Wrote was text now None) same-page wrote).told in
      absurd (omega (arith, none, start, room-suffices t lawful p kept))
  page-written {was} {now} (Some u) start long wrote =
      let w = (subst (λ text. Wrote was text now (Some u)) same-page wrote).told in
      let bytes : now.at ≡ length (page_text t p) = omega (arith, w.0, start) in
      let rest : was.at + length (page_text t p) ≡ length (page_text t p) = omega (arith, start) in
      record {
        some = refl;
        bytes = bytes;
        buffer_after = w.2 ∙ (λ i. take (start i) was.buffer.now ++ (page_text t p ++ drop (rest i) was.buffer.now));
        short = omega (arith, room-suffices t lawful p kept, bytes);
      }
