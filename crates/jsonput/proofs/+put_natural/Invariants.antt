use Rattle.jsonput.proofs.+put_natural.Given as goal

-- proposed from what the function passes where it calls itself
abbrev pub decreases-put_natural : goal.decreases-put_natural
decreases-put_natural l = l.n
