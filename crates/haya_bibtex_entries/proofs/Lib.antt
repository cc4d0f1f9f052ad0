mod TakenPlaces
