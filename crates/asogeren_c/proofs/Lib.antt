-- What is proved of the exported calls beside their contracts.
mod OneAnswer
mod Exported
