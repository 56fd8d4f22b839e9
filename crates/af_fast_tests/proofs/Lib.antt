mod Zips
mod OneBlock
mod Waiting
