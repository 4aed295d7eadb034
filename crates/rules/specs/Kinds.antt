-- Kinds and sizes of investees, with their numbers.
use Rattle.std.specs.Prelude.{ℕ, cond, Some, None, Option, ◌==◌}
use Rattle.rules.specs.declared.kinds.Kind.{Kind}
use Rattle.rules.specs.declared.kinds.Kind.TheVariants.{Project, PropertyDevelopment, PropertyPurchase, Vehicle, GeneralLoan, Bond}
use Rattle.rules.specs.declared.kinds.Size.{Size}
use Rattle.rules.specs.declared.kinds.Size.TheVariants.{Large, Medium, Small, Micro, Person}

abbrev pub kind_number : Kind → ℕ
kind_number Project = 1
kind_number PropertyDevelopment = 2
kind_number PropertyPurchase = 3
kind_number Vehicle = 4
kind_number GeneralLoan = 5
kind_number Bond = 6

abbrev pub kind_numbered : ℕ → Option Kind
kind_numbered n =
    cond (n == 1) (Some Project)
    (cond (n == 2) (Some PropertyDevelopment)
    (cond (n == 3) (Some PropertyPurchase)
    (cond (n == 4) (Some Vehicle)
    (cond (n == 5) (Some GeneralLoan)
    (cond (n == 6) (Some Bond) None)))))

abbrev pub size_number : Size → ℕ
size_number Large = 1
size_number Medium = 2
size_number Small = 3
size_number Micro = 4
-- a person or a household business
size_number Person = 5

abbrev pub size_numbered : ℕ → Option Size
size_numbered n =
    cond (n == 1) (Some Large)
    (cond (n == 2) (Some Medium)
    (cond (n == 3) (Some Small)
    (cond (n == 4) (Some Micro)
    (cond (n == 5) (Some Person) None))))
