-- Which words say a command. This project's own.
use Rattle.std.specs.Prelude.{◌≡◌, ◌<◌, ◌^◌, ℕ, List}
use Rattle.xs_top.specs.declared.command.Command.{Command}
use Rattle.xs_top.specs.declared.command.Command.TheVariants as commands
use Rattle.xs_top.specs.Run.{check_words, demo_words, gen_words, play_words}

abbrev pub IsSaidBy : List (List ℕ) → Command → Type 0
IsSaidBy words (commands.Play play) = words ≡ play_words play
IsSaidBy words commands.Check = words ≡ check_words
IsSaidBy words (commands.Gen number) = (number < 2 ^ 32) × (words ≡ gen_words number)
IsSaidBy words (commands.Demo number) = (number < 2 ^ 32) × (words ≡ demo_words number)
